use Rattle.bbm_rules.proofs.Common.{ℕ, take, reverse}
use Rattle.bbm_oracle_patterns.specs.Kept.{notes_behind, notes_for}
use Rattle.bbm_oracle_patterns.specs.Walk.{IsWalk}
use Rattle.bbm_oracle_patterns.proofs.trace.walk_through.Given as goal

abbrev pub invariant-loop-kept : goal.invariant-loop-kept
invariant-loop-kept l = (before : ℕ) → IsWalk l.walk l.header l.place
    (notes_for l.covering (notes_behind before (reverse (take l.kept-index l.later))))
