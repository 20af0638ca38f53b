use Rattle.bbm_place_map.proofs.Common.{true, List, refl, sym, subst, HoldsFor, WorkList}
use Rattle.bbm_place_map.proofs.Holding.{push_kept}
use Rattle.bbm_place_map.proofs.work.make_lists.Goals as goal

pub returns-in-Err : goal.returns-in-Err
returns-in-Err c = λ wide q j holds.
    let P : List WorkList → Type 0 = λ xs. HoldsFor xs q wide j in
    subst P (sym c.in-Err.ensures.items) (c.loop-pe.invariant wide q j holds)

pub loop-pe-preserved : goal.loop-pe-preserved
loop-pe-preserved c = λ wide q j holds.
    let P : List WorkList → Type 0 = λ xs. HoldsFor xs q wide j in
    subst P (sym c.in-Ok.ensures.items) (push_kept c.loop-pe.lists.items (record { given_up = true; local_done = 0; cells = c.new.result }) refl wide q j (c.loop-pe.invariant wide q j holds))
