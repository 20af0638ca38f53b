use Rattle.bbm_rules.proofs.Common.{◌≡◌, take, least, unfresh}
use Rattle.bbm_oracle_trees.specs.Past.{notes}
use Rattle.bbm_judge.proofs.least.least_unfresh.Given as goal

abbrev pub invariant-loop-page : goal.invariant-loop-page
invariant-loop-page g l =
    l.found ≡ least (unfresh l.history.heading l.history.trust (notes l.history) (take l.page-index l.pages))
