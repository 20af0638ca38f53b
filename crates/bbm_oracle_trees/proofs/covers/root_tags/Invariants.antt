use Rattle.bbm_rules.proofs.Common.{events_of}
use Rattle.bbm_oracle_trees.specs.Past.{notes}
use Rattle.bbm_oracle_trees.specs.Views.{AreTags}
use Rattle.bbm_oracle_trees.proofs.covers.root_tags.Given as goal

abbrev pub invariant-loop-root : goal.invariant-loop-root
invariant-loop-root g l = AreTags l.log.heading l.log.trust (events_of (notes l.log)) l.known.items
