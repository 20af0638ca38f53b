use Rattle.bbm_rules.proofs.Common.{◌≡◌, Bool, ◌||◌, take, any, Reading}
use Rattle.bbm_idle.proofs.find_tags.add_readings.Given as goal

abbrev pub invariant-loop-reading : goal.invariant-loop-reading
invariant-loop-reading l = (test : Reading → Bool) → any test l.known.items
    ≡ (any test l.initial.known.items || any test (take l.reading-index l.readings))
