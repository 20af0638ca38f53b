use Rattle.bbm_idle.proofs.Common.{Phase, Patterns, same_phase}
use Rattle.bbm_rules.proofs.Common.{ℕ, ap, ◌∙◌, every_same, every_pe}
use Rattle.bbm_regimes.specs.PeMask.{pe_in}
use Rattle.bbm_rules.specs.Phases.{phase_of}
use Rattle.bbm_idle.specs.Finding.{phase_from}
use Rattle.bbm_idle.proofs.find_phases.has_still.Goals as goal

pub returns : goal.returns
returns c = λ h s.
    c.has_all.ensures
    ∙ ap (λ (n : ℕ). every_pe n (λ p. pe_in c.alike.result p)) c.pe_count.ensures
    ∙ every_same c.args.header.now.pes (λ p. pe_in c.alike.result p)
    (λ p. same_phase (phase_of c.args.header.now Patterns h c.args.old.now.place p) (phase_from c.args.old.now.phases p))
    (λ p below. c.alike.ensures p below
    ∙ ap (λ (x : Phase). same_phase x (phase_from c.args.old.now.phases p)) (c.phases_at-new.ensures c.args.header.now h s p))
