use Rattle.bbm_oracle_trees.specs.Past.{notes}
use Rattle.bbm_oracle_trees.proofs.Emptying.{level_added}
use Rattle.bbm_oracle_trees.proofs.emptied.add_level.Goals as goal

pub returns : goal.returns
returns g c =
    let past = c.args.taken.now in
    level_added past.heading past.trust c.args.emptied.now.items (notes past) c.args.level
    c.in_ok-found.found.items c.append.new.self.items c.in_ok-append.ensures.items
    (rw c.deref.ensures.value at c.in_ok-found.ensures)
