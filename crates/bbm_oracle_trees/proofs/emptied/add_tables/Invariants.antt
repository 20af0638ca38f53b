use Rattle.bbm_rules.proofs.Common.{take}
use Rattle.bbm_oracle_trees.specs.Emptied.{is_new}
use Rattle.bbm_oracle_trees.specs.Past.{notes}
use Rattle.bbm_oracle_trees.proofs.Emptying.{Added}
use Rattle.bbm_oracle_trees.proofs.emptied.add_tables.Given as goal

abbrev pub invariant-loop-event : goal.invariant-loop-event
invariant-loop-event g l = Added l.tables.kind l.tables.level
    (λ k level place. is_new l.taken.heading l.taken.trust l.emptied k level place (notes l.taken))
    l.initial.found.items (take l.event-index l.events) l.found.items
