use Rattle.bbm_roots.proofs.Common.{◌≡◌, ◌++◌, take, flat_map, own_reading}
use Rattle.bbm_roots.proofs.reading.add_own.Given as goal

abbrev pub invariant-loop-load : goal.invariant-loop-load
invariant-loop-load l =
    l.readings.items ≡ l.initial.readings.items ++ flat_map (own_reading l.kind) (take l.load-index l.loads)
