use Rattle.bbm_roots.proofs.Common.{◌≡◌, ◌++◌, take, flat_map, readings_with}
use Rattle.bbm_roots.proofs.reading.add_each.Given as goal

abbrev pub invariant-loop-load : goal.invariant-loop-load
invariant-loop-load l =
    l.readings.items ≡ l.initial.readings.items ++ flat_map (readings_with (l.newest ++ l.others)) (take l.load-index l.second)
