use Rattle.bbm_rules.proofs.Common.{◌≡◌, ◌≤◌, length, drop, least, repeated}
use Rattle.bbm_judge.proofs.least.least_repeated.Given as goal

abbrev pub invariant-loop-rest : goal.invariant-loop-rest
invariant-loop-rest l = (l.found ≡ least (repeated (drop l.rest l.pages))) × (l.rest ≤ length l.pages)

abbrev pub decreases-loop-rest : goal.decreases-loop-rest
decreases-loop-rest l = l.rest
