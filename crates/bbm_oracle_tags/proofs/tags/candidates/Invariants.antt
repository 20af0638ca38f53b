use Rattle.bbm_rules.proofs.Common.{◌≡◌, ℕ, ◌<◌, true, reverse}
use Rattle.bbm_regimes.specs.declared.regime.Tag.{Tag}
use Rattle.bbm_oracle_tags.specs.HeldTagSets.{has_tag, was_read}
use Rattle.bbm_oracle_tags.proofs.tags.candidates.Given as goal

abbrev pub invariant-loop-number : goal.invariant-loop-number
invariant-loop-number l =
    (p : ℕ) (g : Tag) → p < l.number → was_read l.header p l.root g (reverse l.events) ≡ true
    → has_tag g l.tags.items ≡ true
