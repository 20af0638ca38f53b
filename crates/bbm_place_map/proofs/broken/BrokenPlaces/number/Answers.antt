use Rattle.bbm_place_map.proofs.Common.{◌≡◌, ◌∙◌, Some, None, cell_by, sym}
use Rattle.bbm_place_map.proofs.Held.{number_at_cell, number_without_cell}
use Rattle.bbm_place_map.proofs.broken.BrokenPlaces.number.Goals as goal

pub returns-in_err-cell : goal.returns-in_err-cell
returns-in_err-cell c =
    let at : cell_by c.self.inside.parts.items c.args.j ≡ None = rw (← c.deref.ensures.value, ← c.cell.ensures) c.in_err-cell.was in
    rw (← c.self.view_is) (c.from_residual.ensures ∙ sym (number_without_cell c.self.invariant.0 c.args.j at))

pub returns : goal.returns
returns c =
    let at : cell_by c.self.inside.parts.items c.args.j ≡ Some c.in_ok-cell.field-0
    = rw (← c.deref.ensures.value, ← c.cell.ensures) c.in_ok-cell.was in
    rw (← c.self.view_is) (c.number.ensures ∙ sym (number_at_cell c.self.invariant.0 c.args.j c.in_ok-cell.field-0 at))
