use Rattle.bbm_place_map.proofs.Common.{Lacks}
use Rattle.bbm_place_map.proofs.entry.place_of.Given as goal

abbrev pub invariant-loop-i : goal.invariant-loop-i
invariant-loop-i l = Lacks l.pendings l.i l.lane
