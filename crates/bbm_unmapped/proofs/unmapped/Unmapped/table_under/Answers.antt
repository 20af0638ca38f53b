use Rattle.bbm_rules.proofs.Common.{◌∙◌, sym}
use Rattle.bbm_unmapped.proofs.Tables.{only_none, only_table}
use Rattle.bbm_unmapped.proofs.unmapped.Unmapped.table_under.Goals as goal

pub returns-then-is_in_tree : goal.returns-then-is_in_tree
returns-then-is_in_tree c = only_table c.args.index.now c.args.outputs.now c.in-Some.page c.in-Some.ensures.only
    (sym c.is_in_tree.ensures ∙ c.if-is_in_tree.true)

pub returns-else-is_in_tree : goal.returns-else-is_in_tree
returns-else-is_in_tree c = only_none c.args.index.now c.args.outputs.now c.in-Some.page c.in-Some.ensures.only
    (sym c.is_in_tree.ensures ∙ c.if-is_in_tree.false)
