use Rattle.bbm_idle.proofs.Common.{notes, adds_with, place_adds}
use Rattle.bbm_rules.proofs.Common.{◌≡◌, ℕ, take, any, Noted}
use Rattle.bbm_idle.proofs.find_places.seats_of.Given as goal

abbrev pub invariant-loop-place : goal.invariant-loop-place
invariant-loop-place l = (p : ℕ) (tlbi : Noted) → any (place_adds l.history.heading (notes l.history) tlbi p) l.seats.items
    ≡ any (adds_with l.history.heading (notes l.history) tlbi p) (take l.place-index l.places)
