use Rattle.bbm_oracle_trees.proofs.Noting.{noted_more}
use Rattle.bbm_oracle_trees.proofs.history.noted.Goals as goal

pub returns-clause-note : goal.returns-clause-note
returns-clause-note g c =
    noted_more c.args.log.now.heading c.args.log.now.trust c.args.log.now.kept
    (record { event = c.args.event.now; covers = c.in_ok-covers.covers; tops = c.in_ok-tops.tops })
    c.in_ok-covers.ensures c.in_ok-tops.ensures
