use Rattle.bbm_rules.proofs.Common.{◌≡◌, ◌-◌, ◌++◌, take, flat_map}
use Rattle.bbm_judge.proofs.Paths.{through}
use Rattle.bbm_oracle_trees.specs.Past.{notes}
use Rattle.bbm_judge.proofs.ends.+add_ends.Given as goal

abbrev pub decreases-add_ends : goal.decreases-add_ends
decreases-add_ends g l = 3 - l.level

abbrev pub invariant-loop-next : goal.invariant-loop-next
invariant-loop-next g l = l.ends.items ≡ l.initial.ends.items
    ++ flat_map (through l.history.heading l.history.trust (notes l.history) l.kind l.below)
    (take l.next-index l.next-items)
