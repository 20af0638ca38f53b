use Rattle.bbm_roots.proofs.Common.{take, list_any, LeavesThose}
use Rattle.bbm_roots.proofs.TagLists.{is_keyed}
use Rattle.bbm_roots.proofs.hold.leave_each.Given as goal

abbrev pub invariant-loop-index : goal.invariant-loop-index
invariant-loop-index l =
    LeavesThose l.initial.holds l.holds l.root (λ g. list_any (is_keyed g) (take l.index l.tags.entries))
