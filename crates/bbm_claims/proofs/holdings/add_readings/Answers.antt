use Rattle.bbm_claims.proofs.Common.{has}
use Rattle.bbm_rules.proofs.Common.{◌&&◌, ◌==◌, same_tag, rules}
use Rattle.bbm_claims.proofs.OneMore.{or_more}
use Rattle.bbm_claims.proofs.holdings.add_readings.Goals as goal

pub loop-reading-preserved : goal.loop-reading-preserved
loop-reading-preserved c = λ p root tag.
    or_more (λ r. same_tag r.tag tag && r.root == root) (c.args.pe == p) (has c.args.held.now.items p root tag) _
    (has c.loop-reading.held.items p root tag) (has c.add.new.held.items p root tag) c.args.readings.now c.loop-reading.reading-index
    c.reading-item.result (search rules) c.loop-reading-test.true c.reading-item.is (c.loop-reading.invariant p root tag) (c.in_ok-add.ensures p root tag)
