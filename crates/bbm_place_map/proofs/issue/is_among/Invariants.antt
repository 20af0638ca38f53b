use Rattle.bbm_place_map.proofs.Common.{◌≡◌, drop, is_found}
use Rattle.bbm_place_map.proofs.issue.is_among.Given as goal

abbrev pub invariant-loop-item : goal.invariant-loop-item
invariant-loop-item l = is_found (drop l.item-index l.found) l.place ≡ is_found l.found l.place
