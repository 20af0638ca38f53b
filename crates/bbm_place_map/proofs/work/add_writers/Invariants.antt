use Rattle.bbm_place_map.proofs.Common.{◌≡◌, ◌<◌, ℕ, Bool, true, HoldsFor, pe_in}
use Rattle.bbm_place_map.proofs.work.add_writers.Given as goal

abbrev pub invariant-loop-i : goal.invariant-loop-i
invariant-loop-i l = record {
  there : (wide : Bool) (q : ℕ) → q < l.i → pe_in l.writers q ≡ true → HoldsFor l.lists.items q wide l.cell;
  kept : (wide : Bool) (q j : ℕ) → HoldsFor l.initial.lists.items q wide j → HoldsFor l.lists.items q wide j;
}
