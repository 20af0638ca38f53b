use Rattle.bbm_place_map.proofs.Common.{Bool, ◌↔◌, IsTrue, sym, subst, IsQuiet}
use Rattle.bbm_place_map.proofs.Idling.{quiet_iff, local_iff}
use Rattle.bbm_place_map.proofs.entry.is_quiet.Goals as goal

pub returns-then-wide : goal.returns-then-wide
returns-then-wide c =
    let P : Bool → Type 0 = λ w. IsTrue c.is_none.result ↔ IsQuiet w c.args.pends.now in
    subst P (sym c.if-wide.true) (quiet_iff c.args.pends.now c.or.result c.or.ensures c.is_none.result c.is_none.ensures)

pub returns-else-wide : goal.returns-else-wide
returns-else-wide c =
    let P : Bool → Type 0 = λ w. IsTrue c.is_none-else-wide.result ↔ IsQuiet w c.args.pends.now in
    subst P (sym c.if-wide.false) (local_iff c.args.pends.now c.is_none-else-wide.result c.is_none-else-wide.ensures)
