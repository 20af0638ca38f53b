use Rattle.bbm_rules.proofs.Common.{◌≡◌, take, reverse, given_up}
use Rattle.bbm_oracle_tags.proofs.roots.given_up.Given as goal

abbrev pub invariant-loop-event : goal.invariant-loop-event
invariant-loop-event l = l.pages.items ≡ given_up (reverse (take l.event-index l.events))
