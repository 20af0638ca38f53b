use Rattle.bbm_rules.proofs.Common.{◌≡◌, take, reverse, among, initialised}
use Rattle.bbm_oracle_tags.proofs.pages.is_initialised.Given as goal

abbrev pub invariant-loop-event : goal.invariant-loop-event
invariant-loop-event l = l.found ≡ among l.page (initialised (reverse (take l.event-index l.events)))
