use Rattle.bbm_rules.proofs.Common.{◌≡◌, take, reverse, is_root}
use Rattle.bbm_oracle_tags.proofs.roots.is_root.Given as goal

abbrev pub invariant-loop-event : goal.invariant-loop-event
invariant-loop-event l = l.found ≡ is_root (reverse (take l.event-index l.events)) l.kind l.page
