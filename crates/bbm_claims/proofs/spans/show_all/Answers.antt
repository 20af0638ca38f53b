use Rattle.bbm_claims.proofs.Common.{lasts}
use Rattle.bbm_rules.proofs.Common.{◌==◌, same_tag, rules}
use Rattle.bbm_claims.proofs.OneMore.{or_more}
use Rattle.bbm_claims.proofs.spans.show_all.Goals as goal

pub loop-reading-preserved : goal.loop-reading-preserved
loop-reading-preserved c = λ p n g.
    or_more (λ r. same_tag r.tag g) (c.args.pe == p) (lasts c.args.spans.now.items p g n) _
    (lasts c.loop-reading.spans.items p g n) (lasts c.show.new.spans.items p g n) c.args.readings.now
    c.loop-reading.reading-index c.reading-item.result (search rules) c.loop-reading-test.true c.reading-item.is
    (c.loop-reading.invariant p n g) (c.in_ok-show.ensures p n g)
