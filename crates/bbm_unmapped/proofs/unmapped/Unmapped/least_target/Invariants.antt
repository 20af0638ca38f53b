use Rattle.bbm_unmapped.proofs.Common.{Before, LeastOf}
use Rattle.bbm_tree_index.proofs.Leasts.{AtItem}
use Rattle.bbm_unmapped.proofs.Targets.{TargetOf}
use Rattle.bbm_unmapped.proofs.unmapped.Unmapped.least_target.Given as goal

abbrev pub invariant-loop-listed : goal.invariant-loop-listed
invariant-loop-listed l = LeastOf (Before (AtItem l.pages (λ j. TargetOf l.pages l.self l.index l.map)) l.listed-index)
    l.least
