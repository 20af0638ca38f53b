use Rattle.bbm_rules.proofs.Common.{sym, ◌∙◌}
use Rattle.bbm_rules.specs.Mapped.{maps}
use Rattle.bbm_oracle_trees.proofs.Keeping.{sift_drops, sift_keeps}
use Rattle.bbm_oracle_trees.proofs.clean.unmapped_by.Goals as goal
use Rattle.bbm_oracle_trees.proofs.clean.unmapped_by.Goals.{then-not-maps+in_ok-push, else-not-maps}

pub loop-page-preserved : goal.loop-page-preserved
loop-page-preserved c =
    elim c.if-not-maps.branch [
      | then-not-maps+in_ok-push w ↦ λ q. rw (w.left-is, w.in_ok-push.ensures.items)
          (sift_keeps (maps c.args.kind c.args.level c.args.value) c.args.pages.now c.loop-page.left.items c.loop-page.page-index
          c.page-item.result c.loop-page-test.true c.page-item.is c.loop-page.invariant (sym c.maps.ensures ∙ w.if-not-maps.true) q)
      | else-not-maps w ↦ λ q. rw w.left-is
          (sift_drops (maps c.args.kind c.args.level c.args.value) c.args.pages.now c.loop-page.left.items c.loop-page.page-index
          c.page-item.result c.loop-page-test.true c.page-item.is c.loop-page.invariant (sym c.maps.ensures ∙ w.if-not-maps.false) q)
    ]
