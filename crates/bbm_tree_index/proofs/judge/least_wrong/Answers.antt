use Rattle.bbm_tree_index.proofs.Common.{WrongIn, fresh_of}
use Rattle.bbm_rules.proofs.Common.{refl, slice_get_read}
use Rattle.bbm_tree_index.proofs.Leasts.{item_step}
use Rattle.bbm_tree_index.proofs.Wrongs.{all_tables}
use Rattle.bbm_tree_index.proofs.judge.least_wrong.Goals as goal

pub wrong_in-found-requires : goal.wrong_in-found-requires
wrong_in-found-requires c = c.requires c.loop-level.level c.index-tables-level.result
    (slice_get_read _ _ _ _ refl c.loop-level-test.true c.index-tables-level.is)

pub loop-level-preserved : goal.loop-level-preserved
loop-level-preserved c =
    item_step c.args.tables.now (WrongIn c.args.tables.now (fresh_of c.args.roles.now) c.args.named) c.loop-level.level
    c.index-tables-level.result c.loop-level.least c.wrong_in-found.result c.lesser_page-least.result
    (slice_get_read _ _ _ _ refl c.loop-level-test.true c.index-tables-level.is) c.lesser_page-least.ensures c.loop-level.invariant
    c.wrong_in-found.ensures

pub returns : goal.returns
returns c = all_tables c.args.tables.now (fresh_of c.args.roles.now) c.args.named c.loop-level.level c.loop-level.least
    c.loop-level-test.false c.loop-level.invariant
