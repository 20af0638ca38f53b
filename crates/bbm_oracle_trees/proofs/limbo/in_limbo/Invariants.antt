use Rattle.bbm_rules.proofs.Common.{◌≡◌, false, not, take, is_valid, any, events_of, Above, value_of}
use Rattle.bbm_oracle_trees.specs.Past.{notes}
use Rattle.bbm_oracle_trees.proofs.limbo.in_limbo.Given as goal

abbrev pub invariant-loop-above : goal.invariant-loop-above
invariant-loop-above g l = any
    (λ (a : Above). not (is_valid l.node-inside.kind a.level (value_of (events_of (notes l.log)) a.place)))
    (take l.above-index l.above-items) ≡ false
