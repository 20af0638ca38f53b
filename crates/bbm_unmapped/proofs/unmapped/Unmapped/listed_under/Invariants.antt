use Rattle.bbm_unmapped.proofs.Common.{Before, IsFreeUnder, LeastOf}
use Rattle.bbm_tree_index.proofs.Leasts.{AtItem}
use Rattle.bbm_unmapped.proofs.Targets.{PassesAt}
use Rattle.bbm_unmapped.proofs.unmapped.Unmapped.listed_under.Given as goal

abbrev pub invariant-loop-listed : goal.invariant-loop-listed
invariant-loop-listed l = LeastOf (Before (AtItem l.pages (PassesAt (IsFreeUnder l.self l.outputs))) l.listed-index)
    l.least
