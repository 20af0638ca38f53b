use Rattle.bbm_place_map.proofs.Common.{List, ap, ◌∙◌, slice_get, Holds, RestsAt, Entry}
use Rattle.bbm_place_map.proofs.Knowing.{rests_by_cell}
use Rattle.bbm_place_map.proofs.visit.visit_by.Goals as goal

pub returns-else-settled-clause-known : goal.returns-else-settled-clause-known
returns-else-settled-clause-known c = λ wide.
    let by = c.args.barrier.now in
    let new = c.visit_all.new in
    rests_by_cell new.entries.cells.items new.entries.list.items new.entries.linked (Holds c.relist.new.list wide)
    (RestsAt by.effect wide by.n by.issuer)
    (λ k e is. c.relist.ensures wide k e (ap (λ (xs : List Entry). slice_get xs k) c.deref.ensures.value ∙ is))
