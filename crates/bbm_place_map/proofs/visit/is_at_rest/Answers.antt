use Rattle.bbm_place_map.proofs.Common.{◌≡◌, List, Bool, true, refl, sym, subst, pends_in, Effect, IsQuiet, Pending}
use Rattle.bbm_place_map.proofs.Common.{RestsAt}
use Rattle.bbm_place_map.proofs.visit.is_at_rest.Goals as goal

pub returns-in-Publish : goal.returns-in-Publish
returns-in-Publish c =
    let by = c.args.barrier.now in
    let P : Effect → Type 0 = λ x. c.is_told.result ≡ true → (wide : Bool) → RestsAt x wide by.n by.issuer c.args.entry.now in
    subst P (sym c.in-Publish.is) c.is_told.ensures

pub returns-in-Complete : goal.returns-in-Complete
returns-in-Complete c =
    let by = c.args.barrier.now in
    let P : Effect → Type 0 = λ x. c.is_quiet_for.result ≡ true → (wide : Bool) → RestsAt x wide by.n by.issuer c.args.entry.now in
    let Q : List Pending → Type 0 = λ ps. IsQuiet true (pends_in ps by.issuer) in
    subst P (sym c.in-Complete.is)
    (λ quiet wide b cover p _. (subst Q c.deref.ensures (c.is_quiet_for.ensures.0 quiet)) b cover p refl)
