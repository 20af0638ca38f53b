use Rattle.bbm_idle.proofs.Common.{is_taken}
use Rattle.bbm_rules.proofs.Common.{◌≡◌, Bool, ◌||◌, take, any, Reading}
use Rattle.bbm_idle.proofs.find_tags.add_taken.Given as goal

abbrev pub invariant-loop-reading : goal.invariant-loop-reading
invariant-loop-reading l = (test : Reading → Bool) → any test l.taken.items
    ≡ (any test l.initial.taken.items || any (is_taken l.scope l.vmid l.root test) (take l.reading-index l.known))
