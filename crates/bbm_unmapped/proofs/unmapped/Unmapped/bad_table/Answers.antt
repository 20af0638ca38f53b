use Rattle.bbm_unmapped.proofs.Targets.{bad_tables}
use Rattle.bbm_unmapped.proofs.unmapped.Unmapped.bad_table.Goals as goal

pub returns : goal.returns
returns c = bad_tables c.args.pages.now c.args.self.now c.args.index.now c.args.map.now c.least_unclean-unclean.result
    c.least_target-target.result c.lesser_page.result c.lesser_page.ensures c.least_unclean-unclean.ensures
    c.least_target-target.ensures
