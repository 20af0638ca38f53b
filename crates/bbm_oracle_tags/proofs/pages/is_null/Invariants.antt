use Rattle.bbm_rules.proofs.Common.{◌≡◌, take, reverse, is_null}
use Rattle.bbm_oracle_tags.proofs.pages.is_null.Given as goal

abbrev pub invariant-loop-event : goal.invariant-loop-event
invariant-loop-event l = l.found ≡ is_null (reverse (take l.event-index l.events)) l.page
