use Rattle.bbm_oracle_trees.specs.Past.{notes}
use Rattle.bbm_oracle_trees.proofs.Emptying.{levels_added}
use Rattle.bbm_oracle_trees.proofs.emptied.add_emptied.Goals as goal

pub returns : goal.returns
returns g c =
    let past = c.args.taken.now in
    levels_added past.heading past.trust (notes past) c.args.emptied.now.items c.add_level.new.emptied.items
    c.add_level-2.new.emptied.items c.add_level-3.new.emptied.items
    c.in_ok-add_level.ensures c.in_ok-add_level-2.ensures c.in_ok-add_level-3.ensures
