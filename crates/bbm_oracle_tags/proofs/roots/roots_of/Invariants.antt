use Rattle.bbm_rules.proofs.Common.{◌≡◌, take, reverse, roots_of}
use Rattle.bbm_oracle_tags.proofs.roots.roots_of.Given as goal

abbrev pub invariant-loop-event : goal.invariant-loop-event
invariant-loop-event l = l.roots.items ≡ roots_of (reverse (take l.event-index l.events))
