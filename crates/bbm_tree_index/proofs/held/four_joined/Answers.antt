use Rattle.bbm_tree_index.proofs.Common.{value_at}
use Rattle.bbm_rules.proofs.Common.{◌+◌, ◌*◌}
use Rattle.bbm_tree_index.proofs.Joined.{four_zero}
use Rattle.bbm_tree_index.proofs.held.four_joined.Goals as goal

pub returns : goal.returns
returns c = λ none.
    four_zero (λ i. value_at c.args.map.now (c.args.position.now.place + 8 * i)) c.args.from c.value_from.result
    c.value_from-2.result
    c.value_from-3.result c.value_from-4.result c.value_from.ensures c.value_from-2.ensures c.value_from-3.ensures
    c.value_from-4.ensures none
