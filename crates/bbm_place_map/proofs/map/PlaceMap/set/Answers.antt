use Rattle.bbm_place_map.proofs.Common.{◌≡◌, ℕ, Option, Some, IfSome, sym, subst, EntryState, Live, Leaves}
use Rattle.bbm_place_map.specs.declared.position.Position.{Position}
use Rattle.bbm_place_map.proofs.Wholes.{left_live}
use Rattle.bbm_place_map.proofs.map.PlaceMap.set.Goals as goal

-- the position is that of the place
there : (place : ℕ) (found : Option Position) (position : Position) → found ≡ Some position → IfSome found (λ s. s.place ≡ place) → position.place ≡ place
there place found position is here = let P : Option Position → Type 0 = λ o. IfSome o (λ s. s.place ≡ place) in subst P is here

pub returns-in-Live-clause-left : goal.returns-in-Live-clause-left
returns-in-Live-clause-left c =
    let self = c.args.self.now in
    let new = c.put_unbroken-in-Live.new.self in
    let P : EntryState → Type 0 = λ s. Leaves s c.args.place self new in
    let Q : ℕ → Type 0 = λ a. Leaves (Live c.in-Live.core) a self new in
    subst P (sym c.in-Live.is)
    (subst Q (there c.args.place c.position.result c.unwrap-position.result c.unwrap-position.ensures c.position.ensures.place)
    (left_live c.in-Live.core c.put_unbroken-in-Live.ensures.left))
