use Rattle.bbm_tree_index.proofs.Common.{joined, RootPage}
use Rattle.bbm_rules.proofs.Common.{◌==◌, ◌∙◌, Some, false, if◌then◌else◌}
use Rattle.bbm_tree_index.proofs.Rooted.{marks_more}
use Rattle.bbm_tree_index.proofs.start.start_root.Goals as goal

pub loop-part-preserved : goal.loop-part-preserved
loop-part-preserved c = λ q. let page = c.behind-page.result in c.in_ok-add.ensures.marks q
    ∙ (λ i. if q == page then Some (joined (c.loop-part.invariant page i) (record { role = RootPage c.args.kind c.args.first c.loop-part.part; many = false }))
    else c.loop-part.invariant q i)
    ∙ marks_more c.args.kind c.args.first c.loop-part.part q page c.behind-page.ensures
