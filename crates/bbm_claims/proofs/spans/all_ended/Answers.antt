use Rattle.bbm_claims.proofs.Common.{lasts}
use Rattle.bbm_claims.proofs.Lasting.{ended_more}
use Rattle.bbm_claims.proofs.spans.all_ended.Goals as goal

pub loop-span-preserved : goal.loop-span-preserved
loop-span-preserved c = λ p n tag.
    ended_more c.args.spans.now c.loop-span.span-index c.span-item.result p n c.args.count tag
    (lasts c.loop-span.next.items p tag n) (lasts c.add_ended.new.next.items p tag n)
    c.loop-span-test.true c.span-item.is (c.loop-span.invariant p n tag) (c.in_ok-add_ended.ensures p n tag)
