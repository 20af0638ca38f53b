use Rattle.bbm_rules.proofs.Common.{◌≡◌, drop, first_broken}
use Rattle.bbm_oracle_trees.specs.Past.{notes}
use Rattle.bbm_judge.proofs.order.first_broken.Given as goal

abbrev pub invariant-loop-rule : goal.invariant-loop-rule
invariant-loop-rule g l = first_broken l.history.heading l.history.trust (notes l.history) l.event (drop l.rule-index l.rules)
    ≡ first_broken l.history.heading l.history.trust (notes l.history) l.event l.rules
