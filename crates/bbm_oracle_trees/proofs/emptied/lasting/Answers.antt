use Rattle.bbm_rules.proofs.Common.{sym, ◌∙◌}
use Rattle.bbm_oracle_trees.proofs.Emptying.{lasting_drops, lasting_keeps}
use Rattle.bbm_oracle_trees.proofs.emptied.lasting.Goals as goal
use Rattle.bbm_oracle_trees.proofs.emptied.lasting.Goals.{then-not-ends+in_ok-push, else-not-ends}

pub loop-seat-preserved : goal.loop-seat-preserved
loop-seat-preserved c =
    elim c.if-not-ends.branch [
      | then-not-ends+in_ok-push w ↦ λ k level place. rw (w.left-is, w.in_ok-push.ensures.items)
          (lasting_keeps c.args.event.now c.args.seats.now c.loop-seat.left.items c.loop-seat.seat-index
          c.seat-item.result c.loop-seat-test.true c.seat-item.is c.loop-seat.invariant (sym c.ends.ensures ∙ w.if-not-ends.true) k level place)
      | else-not-ends w ↦ λ k level place. rw w.left-is
          (lasting_drops c.args.event.now c.args.seats.now c.loop-seat.left.items c.loop-seat.seat-index
          c.seat-item.result c.loop-seat-test.true c.seat-item.is c.loop-seat.invariant (sym c.ends.ensures ∙ w.if-not-ends.false) k level place)
    ]
