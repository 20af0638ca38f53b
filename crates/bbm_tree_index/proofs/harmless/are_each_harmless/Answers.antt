use Rattle.bbm_tree_index.proofs.Common.{spares, value_at}
use Rattle.bbm_rules.proofs.Common.{◌≡◌, ◌≤◌, ◌+◌, ◌*◌, true, sym, ap, ◌∙◌}
use Rattle.std.proofs.Common.{below_more}
use Rattle.bbm_tree_index.proofs.harmless.are_each_harmless.Goals as goal

pub loop-index-preserved : goal.loop-index-preserved
loop-index-preserved c = λ j low high.
    below_more (λ x. c.args.from ≤ x → spares c.args.lower c.args.bits (value_at c.args.map.now (c.args.position.now.place + 8 * x)) ≡ true)
    c.loop-index.index (λ x below from. c.loop-index.invariant x from below)
    (λ from. ap (spares c.args.lower c.args.bits) (sym c.value_from.ensures) ∙ sym c.is_harmless.ensures ∙ c.if-not-is_harmless.false)
    j high low
