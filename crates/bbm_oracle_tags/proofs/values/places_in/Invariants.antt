use Rattle.bbm_rules.proofs.Common.{◌≡◌, take, reverse, places_in}
use Rattle.bbm_oracle_tags.proofs.values.places_in.Given as goal

abbrev pub invariant-loop-event : goal.invariant-loop-event
invariant-loop-event l = l.places.items ≡ places_in (reverse (take l.event-index l.events)) l.page
