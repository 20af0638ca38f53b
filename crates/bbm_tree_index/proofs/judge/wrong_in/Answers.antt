use Rattle.bbm_tree_index.proofs.Common.{fresh_of}
use Rattle.bbm_rules.proofs.Common.{arith}
use Rattle.bbm_tree_index.proofs.Leasts.{least_step}
use Rattle.bbm_tree_index.proofs.Wrongs.{WrongKey, all_wrong}
use Rattle.bbm_tree_index.proofs.judge.wrong_in.Goals as goal

pub loop-index-preserved : goal.loop-index-preserved
loop-index-preserved c = least_step (WrongKey c.args.tables.now (fresh_of c.args.roles.now) c.args.named c.args.level c.args.table.now)
    c.loop-index.index c.loop-index.least c.wrong_at-found.result c.lesser_page-least.result c.lesser_page-least.ensures
    c.loop-index.invariant c.wrong_at-found.ensures

pub returns : goal.returns
returns c = all_wrong c.args.tables.now (fresh_of c.args.roles.now) c.args.named c.args.level c.args.table.now c.loop-index.index
    c.loop-index.least (omega (arith, c.len-index-end.ensures.len, c.loop-index-test.false)) c.loop-index.invariant
