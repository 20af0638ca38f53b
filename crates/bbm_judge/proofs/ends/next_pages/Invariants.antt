use Rattle.bbm_rules.proofs.Common.{◌≡◌, take, filter_map, events_of, next_of, value_of}
use Rattle.bbm_oracle_trees.specs.Past.{notes}
use Rattle.bbm_judge.proofs.ends.next_pages.Given as goal

abbrev pub invariant-loop-place : goal.invariant-loop-place
invariant-loop-place g l = l.pages.items
    ≡ filter_map (λ place. next_of l.kind l.level (value_of (events_of (notes l.history)) place)) (take l.place-index l.place-items)
