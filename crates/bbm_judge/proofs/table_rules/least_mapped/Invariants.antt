use Rattle.bbm_rules.proofs.Common.{◌≡◌, take, filter, least}
use Rattle.bbm_oracle_trees.specs.Past.{notes}
use Rattle.bbm_judge.specs.TablePages.{over}
use Rattle.bbm_judge.proofs.table_rules.least_mapped.Given as goal

abbrev pub invariant-loop-page : goal.invariant-loop-page
invariant-loop-page g l = l.found
    ≡ least (filter (over l.history.heading l.history.trust (notes l.history) l.event l.attached) (take l.page-index l.pages))
