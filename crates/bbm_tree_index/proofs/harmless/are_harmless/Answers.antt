use Rattle.bbm_tree_index.proofs.Common.{asks, value_at, LeafIn, LeastOf}
use Rattle.bbm_rules.proofs.Common.{◌≡◌, ◌+◌, ℕ, None, refl, rules, slice_get_read, subst}
use Rattle.bbm_tree_index.proofs.Leasts.{item_step}
use Rattle.bbm_tree_index.proofs.Wrongs.{LeafTable, all_leaves}
use Rattle.bbm_tree_index.proofs.harmless.are_harmless.Goals as goal

pub is_table_harmless-requires : goal.is_table_harmless-requires
is_table_harmless-requires c = c.requires.pages c.loop-depth.depth c.index-tables-depth.result
    (slice_get_read _ _ _ _ refl c.loop-depth-test.true c.index-tables-depth.is)

pub loop-depth-preserved : goal.loop-depth-preserved
loop-depth-preserved c = λ leaf.
    let at : c.unwrap-level.result ≡ c.args.start + c.loop-depth.depth = search rules in
    let is_leaf : ℕ → Type 0 = λ level. LeastOf (LeafIn (value_at c.args.map.now) (asks leaf) c.args.kind level c.index-tables-depth.result) None in
    item_step c.args.tables.now (LeafTable (value_at c.args.map.now) (asks leaf) c.args.kind c.args.start) c.loop-depth.depth
    c.index-tables-depth.result None None None
    (slice_get_read _ _ _ _ refl c.loop-depth-test.true c.index-tables-depth.is) refl (c.loop-depth.invariant leaf)
    (subst is_leaf at (c.is_table_harmless.ensures c.if-not-is_table_harmless.false leaf))

pub returns : goal.returns
returns c = λ yes leaf. all_leaves (value_at c.args.map.now) (asks leaf) c.args.kind c.args.tables.now c.args.start
    c.loop-depth.depth None c.loop-depth-test.false (c.loop-depth.invariant leaf)
