use Rattle.bbm_tree_index.proofs.Common.{asks, value_at, LeafIn, LeastOf}
use Rattle.bbm_rules.proofs.Common.{◌≡◌, ◌+◌, ℕ, refl, rules, slice_get_read, subst}
use Rattle.bbm_tree_index.proofs.Leasts.{item_step}
use Rattle.bbm_tree_index.proofs.Wrongs.{LeafTable, all_leaves}
use Rattle.bbm_tree_index.proofs.judge.least_leaf.Goals as goal

pub leaf_in-found-requires : goal.leaf_in-found-requires
leaf_in-found-requires c = c.requires.pages c.loop-depth.depth c.index-tables-depth.result
    (slice_get_read _ _ _ _ refl c.loop-depth-test.true c.index-tables-depth.is)

pub loop-depth-preserved : goal.loop-depth-preserved
loop-depth-preserved c =
    let at : c.unwrap-level.result ≡ c.args.start + c.loop-depth.depth = search rules in
    let is_leaf : ℕ → Type 0 = λ level. LeastOf (LeafIn (value_at c.args.map.now) (asks c.args.leaf.now) c.args.kind level c.index-tables-depth.result) c.leaf_in-found.result in
    item_step c.args.tables.now (LeafTable (value_at c.args.map.now) (asks c.args.leaf.now) c.args.kind c.args.start) c.loop-depth.depth
    c.index-tables-depth.result c.loop-depth.least c.leaf_in-found.result c.lesser_place-least.result
    (slice_get_read _ _ _ _ refl c.loop-depth-test.true c.index-tables-depth.is) c.lesser_place-least.ensures c.loop-depth.invariant
    (subst is_leaf at c.leaf_in-found.ensures)

pub returns : goal.returns
returns c = all_leaves (value_at c.args.map.now) (asks c.args.leaf.now) c.args.kind c.args.tables.now c.args.start c.loop-depth.depth
    c.loop-depth.least c.loop-depth-test.false c.loop-depth.invariant
