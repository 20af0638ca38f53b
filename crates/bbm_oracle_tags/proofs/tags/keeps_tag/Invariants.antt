use Rattle.bbm_rules.proofs.Common.{◌≡◌, ℕ, ◌<◌, false, reverse}
use Rattle.bbm_oracle_tags.specs.Keepers.{keeps_at}
use Rattle.bbm_oracle_tags.proofs.tags.keeps_tag.Given as goal

abbrev pub invariant-loop-number : goal.invariant-loop-number
invariant-loop-number g l =
    (p : ℕ) → p < l.number
    → keeps_at l.header (g.E.TagEvidence.trust l.evidence) l.keeper p l.root l.tag (reverse l.events) ≡ false
