use Rattle.bbm_replay.proofs.Common.{marks_at, restless_place, Marks, next_in}
use Rattle.bbm_rules.proofs.Common.{◌≡◌, ℕ, ◌<◌, None, Some}
use Rattle.bbm_replay.proofs.writes.is_broken_over_leaves.Given as goal

abbrev pub invariant-loop-i : goal.invariant-loop-i
invariant-loop-i l = (j : ℕ) → j < l.i → (marks : Marks) → marks_at l.map (restless_place l.map j) ≡ Some marks
    → next_in (Some marks.core) ≡ None
