use Rattle.bbm_rules.proofs.Common.{Patterns}
use Rattle.bbm_certify.proofs.DueAdds.{since_unfinished}
use Rattle.bbm_certify.proofs.places.add_since.Goals as goal

pub returns-in-None : goal.returns-in-None
returns-in-None c = λ newest k.
    since_unfinished c.args.header.now c.args.place c.args.before c.args.log.now newest
    (c.law_cleansed.ensures c.args.header.now Patterns) c.args.answer.now k c.args.header.now.pes c.args.due.now.items
    c.in-None.ensures
