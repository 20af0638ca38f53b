use Rattle.bbm_rules.proofs.Common.{◌≡◌, take, reverse, root_at}
use Rattle.bbm_oracle_tags.proofs.roots.root_at.Given as goal

abbrev pub invariant-loop-event : goal.invariant-loop-event
invariant-loop-event l = l.root ≡ root_at (reverse (take l.event-index l.events)) l.page
