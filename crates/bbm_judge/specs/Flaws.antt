-- The descriptors that a write must not put into a tree. Source: project's own choice.
use Rattle.std.specs.Prelude.{Bool, ◌&&◌}
use Rattle.bbm_regimes.specs.declared.regime.Kind.{Kind}
use Rattle.bbm_regimes.specs.declared.regime.Kind.TheVariants.{Ttbr0}
use Rattle.bbm_descriptor.specs.declared.desc.Desc.{Desc}
use Rattle.bbm_rules.specs.Covers.{is_global}
use Rattle.bbm_rules.specs.Roots.{same_kind}
use Rattle.bbm_rules.specs.Rules.{is_contiguous}
use Rattle.bbm_judge.specs.declared.flaws.Flaw.{Flaw}
use Rattle.bbm_judge.specs.declared.flaws.Flaw.TheVariants.{Contiguous, GlobalUser}

-- whether a descriptor in a tree of the kind has the flaw
abbrev pub has_flaw : Flaw → Kind → Desc → Bool
has_flaw Contiguous kind desc = is_contiguous kind desc
has_flaw GlobalUser kind desc = same_kind kind Ttbr0 && is_global desc
