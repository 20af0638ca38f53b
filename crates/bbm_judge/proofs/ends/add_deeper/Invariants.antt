use Rattle.bbm_rules.proofs.Common.{◌≡◌, ◌-◌, ◌++◌, take, flat_map, ends_below}
use Rattle.bbm_oracle_trees.specs.Past.{notes}
use Rattle.bbm_judge.proofs.ends.add_deeper.Given as goal

abbrev pub invariant-loop-page : goal.invariant-loop-page
invariant-loop-page g l = l.ends.items ≡ l.initial.ends.items
    ++ flat_map (ends_below l.history.heading l.history.trust (notes l.history) l.kind (3 - l.level) l.level) (take l.page-index l.pages)
