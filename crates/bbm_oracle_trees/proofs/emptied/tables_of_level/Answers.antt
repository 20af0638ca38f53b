use Rattle.bbm_oracle_trees.specs.Past.{notes}
use Rattle.bbm_oracle_trees.proofs.Emptying.{all_kinds}
use Rattle.bbm_oracle_trees.proofs.emptied.tables_of_level.Goals as goal

pub returns : goal.returns
returns g c =
    let past = c.args.taken.now in
    all_kinds past.heading past.trust c.args.emptied.now (notes past) c.args.level
    c.new-found.result.items c.add_tables.new.found.items c.add_tables-2.new.found.items c.add_tables-3.new.found.items
    c.add_tables-4.new.found.items c.new-found.ensures.items
    c.in_ok-add_tables.ensures c.in_ok-add_tables-2.ensures c.in_ok-add_tables-3.ensures c.in_ok-add_tables-4.ensures
