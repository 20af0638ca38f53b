use Rattle.bbm_rules.proofs.Common.{sym, ◌∙◌}
use Rattle.bbm_oracle_trees.specs.Past.{notes}
use Rattle.bbm_oracle_trees.proofs.Emptying.{goes_at_barrier, goes_elsewhere}
use Rattle.bbm_oracle_trees.proofs.emptied.emptied_now.Goals as goal
use Rattle.bbm_oracle_trees.proofs.emptied.emptied_now.Goals.{then-is_dsb+in_ok-add_emptied, else-is_dsb}

pub returns : goal.returns
returns g c =
    let past = c.args.taken.now in
    elim c.if-is_dsb.branch [
      | then-is_dsb+in_ok-add_emptied w ↦ rw w.now-is
          (goes_at_barrier past.heading past.trust c.args.event.now (notes past) c.args.before.now c.in_ok-now.now.items
          w.add_emptied.new.emptied.items (sym c.is_dsb.ensures ∙ w.if-is_dsb.true) c.in_ok-now.ensures
          w.in_ok-add_emptied.ensures)
      | else-is_dsb w ↦ rw w.now-is
          (goes_elsewhere past.heading past.trust c.args.event.now (notes past) c.args.before.now c.in_ok-now.now.items
          (sym c.is_dsb.ensures ∙ w.if-is_dsb.false) c.in_ok-now.ensures)
    ]
