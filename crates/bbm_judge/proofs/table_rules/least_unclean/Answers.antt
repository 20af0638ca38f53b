use Rattle.bbm_rules.proofs.Common.{not, arith}
use Rattle.bbm_rules.specs.Mapped.{is_clean}
use Rattle.bbm_oracle_trees.specs.Past.{notes}
use Rattle.bbm_judge.proofs.Leasts.{least_filter_more}
use Rattle.bbm_judge.proofs.table_rules.least_unclean.Goals as goal

pub loop-page-preserved : goal.loop-page-preserved
loop-page-preserved g c = rw c.lesser-found.ensures
    (least_filter_more (λ page. not (is_clean c.args.history.now.heading c.args.history.now.trust (notes c.args.history.now) page))
    c.args.pages.now c.loop-page.page-index c.page-item.result c.loop-page.found c.unclean.result
    (omega arith) c.page-item.is c.loop-page.invariant c.unclean.ensures)
