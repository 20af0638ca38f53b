use Rattle.bbm_rules.proofs.Common.{◌≡◌, false, take, any}
use Rattle.bbm_rules.specs.Rules.{end_over}
use Rattle.bbm_oracle_trees.specs.Past.{notes}
use Rattle.bbm_judge.proofs.table_rules.are_ends_over.Given as goal

abbrev pub invariant-loop-end : goal.invariant-loop-end
invariant-loop-end g l =
    any (end_over l.history.heading l.history.trust (notes l.history) l.kind l.page) (take l.end-index l.ends) ≡ false
