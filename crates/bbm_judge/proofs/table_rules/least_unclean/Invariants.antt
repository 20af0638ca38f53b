use Rattle.bbm_rules.proofs.Common.{◌≡◌, not, take, filter, least}
use Rattle.bbm_rules.specs.Mapped.{is_clean}
use Rattle.bbm_oracle_trees.specs.Past.{notes}
use Rattle.bbm_judge.proofs.table_rules.least_unclean.Given as goal

abbrev pub invariant-loop-page : goal.invariant-loop-page
invariant-loop-page g l = l.found
    ≡ least (filter (λ page. not (is_clean l.history.heading l.history.trust (notes l.history) page)) (take l.page-index l.pages))
