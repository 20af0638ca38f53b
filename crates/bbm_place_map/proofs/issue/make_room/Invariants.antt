use Rattle.bbm_place_map.proofs.Common.{EachAdvances}
use Rattle.bbm_place_map.specs.PlaceNotes.{Readies}
use Rattle.bbm_place_map.proofs.Keeping.{ChangesBelow}
use Rattle.bbm_place_map.proofs.issue.make_room.Given as goal

abbrev pub invariant-loop-k : goal.invariant-loop-k
invariant-loop-k l = EachAdvances (ChangesBelow (Readies l.lane l.covers) l.k) l.initial.broken l.broken
