use Rattle.bbm_idle.proofs.Common.{Patterns}
use Rattle.bbm_rules.proofs.Common.{◌≡◌, false, take, reverse, any, kept_at}
use Rattle.bbm_idle.proofs.find_tags.keeps_some.Given as goal

abbrev pub invariant-loop-reading : goal.invariant-loop-reading
invariant-loop-reading l =
    any (λ r. kept_at l.header Patterns l.pe r.root r.tag (reverse l.events)) (take l.reading-index l.readings) ≡ false
