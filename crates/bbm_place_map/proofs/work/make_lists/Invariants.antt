use Rattle.bbm_place_map.proofs.Common.{ℕ, Bool, HoldsFor}
use Rattle.bbm_place_map.proofs.work.make_lists.Given as goal

abbrev pub invariant-loop-pe : goal.invariant-loop-pe
invariant-loop-pe l = (wide : Bool) (q j : ℕ) → HoldsFor l.initial.lists.items q wide j → HoldsFor l.lists.items q wide j
