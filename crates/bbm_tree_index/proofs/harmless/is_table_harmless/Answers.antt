use Rattle.bbm_tree_index.proofs.Common.{keys, asks, value_at}
use Rattle.bbm_rules.proofs.Common.{None, arith, refl}
use Rattle.bbm_tree_index.proofs.Leasts.{item_step}
use Rattle.bbm_tree_index.proofs.Wrongs.{LeafKey, all_keyed}
use Rattle.bbm_tree_index.proofs.harmless.is_table_harmless.Goals as goal

pub loop-index-preserved : goal.loop-index-preserved
loop-index-preserved c = λ leaf. let table = c.args.table.now in
    item_step (keys table) (LeafKey (value_at c.args.map.now) (asks leaf) c.args.kind c.args.level table) c.loop-index.index
    c.entry_at-page.result.0 None None None c.entry_at-page.ensures.at refl (c.loop-index.invariant leaf)
    (λ a l. c.is_page_harmless.ensures c.if-not-is_page_harmless.false leaf a l.1)

pub returns : goal.returns
returns c = λ yes leaf. all_keyed (value_at c.args.map.now) (asks leaf) c.args.kind c.args.level c.args.table.now
    c.loop-index.index None (omega (arith, c.len-index-end.ensures.len, c.loop-index-test.false))
    (c.loop-index.invariant leaf)
