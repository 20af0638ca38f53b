use Rattle.bbm_rules.proofs.Common.{arith}
use Rattle.bbm_tree_index.proofs.Leasts.{least_step}
use Rattle.bbm_unmapped.proofs.Tables.{TableAt, all_tables, count_is}
use Rattle.bbm_unmapped.proofs.unmapped.Unmapped.table_among.Goals as goal

pub loop-number-preserved : goal.loop-number-preserved
loop-number-preserved c = least_step (TableAt c.args.self.now c.args.index.now c.args.outputs.now) c.loop-number.number
    c.loop-number.least
    c.table_at-found.result c.lesser_page-least.result c.lesser_page-least.ensures c.loop-number.invariant
    c.table_at-found.ensures

pub returns : goal.returns
returns c = all_tables c.args.self.now c.args.index.now c.args.outputs.now c.loop-number.number c.loop-number.least
    c.requires
    (omega (arith, count_is c.args.self.now, c.len-number-end.ensures.len, c.loop-number-test.false))
    c.loop-number.invariant
