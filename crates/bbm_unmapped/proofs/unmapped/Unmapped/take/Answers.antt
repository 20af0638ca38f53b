use Rattle.bbm_unmapped.proofs.unmapped.Unmapped.take.Goals as goal
use Rattle.bbm_unmapped.proofs.Tables.{only_tables}

pub returns-in-Some-clause-least : goal.returns-in-Some-clause-least
returns-in-Some-clause-least c = only_tables c.args.index.now c.in-Some.page c.args.outputs.now c.take_page.result c.in-Some.ensures.only
    c.take_page.ensures.least
