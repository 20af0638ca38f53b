-- What is said behind the line of a verdict, by the place that it names. No public contract cites these words.
use Rattle.std.specs.Prelude.{ℕ, Option, Some, None, if◌then◌else◌}
use Rattle.bbm_events.specs.Fits.{is_place}
use Rattle.bbm_rules.specs.declared.rule.Rule.{Rule}
use Rattle.bbm_rules.specs.declared.rule.Rule.TheVariants.{BreakBeforeMake}
use Rattle.bbm_rules.specs.declared.verdict.Verdict.{Verdict}
use Rattle.bbm_rules.specs.declared.verdict.Verdict.TheVariants.{Refused}

-- the place at which break-before-make is broken, None where the verdict is another
abbrev pub place_of_rule : Rule → ℕ → Option ℕ
place_of_rule BreakBeforeMake at = if is_place at then Some at else None
place_of_rule _ at = None

abbrev pub place_named : Verdict → Option ℕ
place_named (Refused line rule at label) = place_of_rule rule at
place_named _ = None
