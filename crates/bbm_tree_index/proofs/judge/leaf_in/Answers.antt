use Rattle.bbm_tree_index.proofs.Common.{keys, LeafOf, asks, value_at}
use Rattle.bbm_rules.proofs.Common.{is_some, ap, arith}
use Rattle.bbm_tree_index.proofs.Leasts.{item_step, least_same}
use Rattle.bbm_tree_index.proofs.Wrongs.{LeafKey, all_keyed}
use Rattle.bbm_tree_index.proofs.judge.leaf_in.Goals as goal

pub loop-index-preserved : goal.loop-index-preserved
loop-index-preserved c = let value = value_at c.args.map.now in let test = asks c.args.leaf.now in let page = c.entry_at-page in
    let P = LeafKey value test c.args.kind c.args.level c.args.table.now in let found = c.leaf_of-found in
    item_step (keys c.args.table.now) P c.loop-index.index page.result.0 c.loop-index.least found.result c.lesser_place-least.result
    page.ensures.at c.lesser_place-least.ensures c.loop-index.invariant
    (least_same (LeafOf value test c.args.kind c.args.level page.result.0) (P c.loop-index.index page.result.0) found.result
    (λ a l. (ap (λ x. is_some x) page.ensures.mark, l)) (λ a k. k.1) found.ensures)

pub returns : goal.returns
returns c = all_keyed (value_at c.args.map.now) (asks c.args.leaf.now) c.args.kind c.args.level c.args.table.now c.loop-index.index
    c.loop-index.least (omega (arith, c.len-index-end.ensures.len, c.loop-index-test.false)) c.loop-index.invariant
