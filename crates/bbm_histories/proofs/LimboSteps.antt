-- Whether a node is in limbo after an event.
use Rattle.bbm_rules.proofs.Common.{◌≡◌, not, Bool, true, false, cond, ◌==◌, List, ◌∷◌, refl, Kind, is_valid, Event}
use Rattle.bbm_rules.proofs.Common.{Init, Write, any, Noted, events_of, page_of, Above, Node, in_limbo, value_of}
use Rattle.bbm_histories.specs.TreeSteps.{invalid_after, invalid_at}
use Rattle.bbm_lemmas.proofs.Tests.{any_same}

value_invalid : (kind : Kind) (h : List Noted) (a : Above) (e : Event)
    → not (is_valid kind a.level (value_of (e ∷ events_of h) a.place)) ≡ invalid_after kind e h a
value_invalid kind h a (Write pe at value) = by (at == a.place)
  where
    by : (c : Bool) → not (is_valid kind a.level (cond c value (value_of (events_of h) a.place)))
        ≡ cond c (not (is_valid kind a.level value)) (invalid_at kind h a)
    by true = refl
    by false = refl
value_invalid kind h a (Init pe page) = by (page == page_of a.place)
  where
    by : (c : Bool) → not (is_valid kind a.level (cond c 0 (value_of (events_of h) a.place))) ≡ cond c true (invalid_at kind h a)
    by true = refl
    by false = refl
value_invalid kind h a e = refl

pub place_step : (kind : Kind) (n : Noted) (h : List Noted) (a : Above) → invalid_at kind (n ∷ h) a ≡ invalid_after kind n.event h a
place_step kind n h a = value_invalid kind h a n.event

pub limbo_step : (n : Noted) (h : List Noted) (m : Node) → in_limbo (n ∷ h) m ≡ any (invalid_after m.kind n.event h) m.above
limbo_step n h m =
    any_same (invalid_at m.kind (n ∷ h)) (invalid_after m.kind n.event h) m.above (λ a. place_step m.kind n h a)
