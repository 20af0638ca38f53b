use Rattle.bbm_place_map.proofs.Common.{arith}
use Rattle.bbm_place_map.proofs.Holding.{more_there, more_kept}
use Rattle.bbm_place_map.proofs.work.add.Goals as goal

pub returns-in-Ok-clause-there : goal.returns-in-Ok-clause-there
returns-in-Ok-clause-there c = more_there c.args.list.now c.push.new.self c.args.cell c.in-Ok.ensures.items (omega arith)

pub returns-in-Ok-clause-kept : goal.returns-in-Ok-clause-kept
returns-in-Ok-clause-kept c = more_kept c.args.list.now c.push.new.self c.args.cell c.in-Ok.ensures.items (omega arith)
