use Rattle.bbm_roots.proofs.Common.{◌≡◌, ◌++◌, take, flat_map, reading_under}
use Rattle.bbm_roots.proofs.reading.add_under.Given as goal

abbrev pub invariant-loop-load : goal.invariant-loop-load
invariant-loop-load l =
    l.readings.items ≡ l.initial.readings.items ++ flat_map (reading_under l.tag) (take l.load-index l.loads)
