use Rattle.bbm_rules.proofs.Common.{◌≡◌, ℕ, ◌<◌, ◌+◌, ◌*◌, false}
use Rattle.bbm_unmapped.proofs.HeldLeaves.{maps_at}
use Rattle.bbm_unmapped.proofs.held.holds_over.Given as goal

abbrev pub invariant-loop-place : goal.invariant-loop-place
invariant-loop-place l = (j : ℕ) → j < l.place → maps_at l.map l.read l.fn.table l.page (l.fn.table + 8 * j) ≡ false
