use Rattle.bbm_rules.proofs.Common.{◌≡◌, ◌≤◌, take, reverse, count_by, is_restless, written_places}
use Rattle.bbm_oracle_trees.specs.Past.{notes}
use Rattle.bbm_judge.proofs.restless.count_written.Given as goal

abbrev pub invariant-loop-index : goal.invariant-loop-index
invariant-loop-index g l = (l.count ≡ count_by (is_restless l.history.heading l.history.trust (notes l.history))
    (written_places (reverse (take l.index l.events)))) × (l.count ≤ l.index)
