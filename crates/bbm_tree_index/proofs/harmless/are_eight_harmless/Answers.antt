use Rattle.bbm_tree_index.proofs.Common.{spares}
use Rattle.bbm_rules.proofs.Common.{ap, ◌∙◌}
use Rattle.bbm_tree_index.proofs.Joined.{spare_zero}
use Rattle.bbm_tree_index.proofs.harmless.are_eight_harmless.Goals as goal

pub returns-then-are_eight_zero : goal.returns-then-are_eight_zero
returns-then-are_eight_zero c = λ yes j low high.
    ap (spares c.args.lower c.args.bits) (c.are_eight_zero.ensures c.if-are_eight_zero.true j low high)
    ∙ spare_zero c.args.lower c.args.bits c.requires.some
