use Rattle.bbm_rules.proofs.Common.{ℕ, ◌-◌, List, ap, ◌∙◌, arith, least, repeated}
use Rattle.bbm_judge.proofs.Lists.{range_behind}
use Rattle.bbm_judge.proofs.least.least_repeated.Goals as goal

pub loop-rest-preserved : goal.loop-rest-preserved
loop-rest-preserved c = (
  c.with_repeated-found.ensures
      ∙ ap (λ (ps : List ℕ). least (repeated ps))
      (range_behind c.args.pages.now (c.loop-rest.rest - 1) c.index-pages-rest.result (omega arith) c.index-pages-rest.is),
  omega arith,
)
