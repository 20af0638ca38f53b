use Rattle.bbm_rules.proofs.Common.{◌≤◌, length}
use Rattle.bbm_certify.proofs.places.index_of.Given as goal

abbrev pub invariant-loop-index : goal.invariant-loop-index
invariant-loop-index l = l.index ≤ length l.places

abbrev pub decreases-loop-index : goal.decreases-loop-index
decreases-loop-index l = l.index
