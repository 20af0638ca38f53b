use Rattle.bbm_place_map.proofs.Common.{List, length, ap, refl, sym, ◌∙◌, eqb-true, pends_in, Pending, nil_from_length}
use Rattle.bbm_place_map.proofs.Idle.{idle_from, quiet_from}
use Rattle.bbm_place_map.proofs.Pendings.{quiet_alike}
use Rattle.bbm_place_map.proofs.entry.is_quiet_for.Goals as goal

pub returns-then-is_empty : goal.returns-then-is_empty
returns-then-is_empty c =
    let ps = c.args.pendings.now in
    let none = nil_from_length ps (eqb-true (length ps) 0 (sym c.is_empty.ensures ∙ c.if-is_empty.true)) in (
      λ t. quiet_from c.args.wide (pends_in ps c.args.issuer)
          (idle_from (pends_in ps c.args.issuer) (ap (λ (xs : List Pending). pends_in xs c.args.issuer) none)),
      λ quiet. refl,
    )

pub returns : goal.returns
returns c =
    quiet_alike (pends_in c.args.pendings.now c.args.issuer) c.pends_of.result c.pends_of.ensures c.args.wide c.is_quiet.result c.is_quiet.ensures
