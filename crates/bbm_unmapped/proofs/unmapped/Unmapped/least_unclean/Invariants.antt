use Rattle.bbm_unmapped.proofs.Common.{Before, LeastOf, free_in}
use Rattle.bbm_rules.proofs.Common.{◌≡◌, false}
use Rattle.bbm_tree_index.proofs.Leasts.{AtItem}
use Rattle.bbm_unmapped.proofs.Targets.{PassesAt}
use Rattle.bbm_unmapped.proofs.unmapped.Unmapped.least_unclean.Given as goal

abbrev pub invariant-loop-listed : goal.invariant-loop-listed
invariant-loop-listed l = LeastOf (Before (AtItem l.pages (PassesAt (λ page. free_in l.self page ≡ false)))
    l.listed-index) l.least
