use Rattle.bbm_rules.proofs.Common.{◌≡◌, pages_from}
use Rattle.bbm_judge.proofs.starts.pages_from.Given as goal

abbrev pub invariant-loop-index : goal.invariant-loop-index
invariant-loop-index l = l.pages.items ≡ pages_from l.first l.index
