use Rattle.bbm_rules.proofs.Common.{arith}
use Rattle.bbm_oracle_trees.specs.Past.{notes}
use Rattle.bbm_judge.specs.TablePages.{over}
use Rattle.bbm_judge.proofs.Leasts.{least_filter_more}
use Rattle.bbm_judge.proofs.table_rules.least_mapped.Goals as goal

pub loop-page-preserved : goal.loop-page-preserved
loop-page-preserved g c = rw c.lesser-found.ensures
    (least_filter_more
    (over c.args.history.now.heading c.args.history.now.trust (notes c.args.history.now) c.args.event.now c.args.attached.now)
    c.args.pages.now c.loop-page.page-index c.page-item.result c.loop-page.found c.in_ok-here.here
    (omega arith) c.page-item.is c.loop-page.invariant c.in_ok-here.ensures)
