use Rattle.bbm_place_map.proofs.Common.{◌≡◌, ℕ, true, Some, slice_get, take, EachAdvances, HasRoom, is_found, Keeps}
use Rattle.bbm_place_map.proofs.Common.{Entry}
use Rattle.bbm_place_map.proofs.issue.make_room_found.Given as goal

abbrev pub invariant-loop-i : goal.invariant-loop-i
invariant-loop-i l = record {
  each : EachAdvances (λ _. Keeps) l.initial.broken l.broken;
  ready : (m : ℕ) (e : Entry) → slice_get l.broken.entries m ≡ Some e → is_found (take l.i l.found) e.place ≡ true
      → HasRoom e.pends l.lane;
}
