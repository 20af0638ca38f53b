use Rattle.bbm_roots.proofs.Common.{◌≡◌, ℕ, length, wait_at}
use Rattle.std.proofs.Common.{◌-◌}
use Rattle.bbm_roots.proofs.pending.add_places.Given as goal

abbrev pub invariant-loop-alloc : goal.invariant-loop-alloc
invariant-loop-alloc l = (n key : ℕ) → wait_at l.waits.items n key ≡ wait_at l.initial.waits.items n key

abbrev pub decreases-loop-alloc : goal.decreases-loop-alloc
decreases-loop-alloc l = l.count - length l.waits.items
