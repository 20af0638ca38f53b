use Rattle.bbm_certify.proofs.Common.{Kept, publishes, publishing}
use Rattle.bbm_rules.proofs.Common.{ap, sym, take, ◌∙◌, zero-le}
use Rattle.bbm_certify.proofs.Searches.{first_here, none_left, none_more, none_yet}
use Rattle.bbm_certify.proofs.patterns.first_publication.Goals as goal

pub loop-i-init : goal.loop-i-init
loop-i-init c = none_yet _ 0 c.args.log.now 0 zero-le

pub loop-i-preserved : goal.loop-i-preserved
loop-i-preserved c =
    none_more (publishing c.args.header.now c.args.spot.now.place c.args.spot.now.pe) 0 c.args.log.now c.loop-i.i
    c.index-log-i.result c.loop-i-test.true c.index-log-i.is (ap (λ (x : Kept). publishes c.args.header.now c.args.spot.now.place c.args.spot.now.pe x.event (take c.loop-i.i c.args.log.now))
    c.index-log-i.is ∙ (sym c.publishes.ensures ∙ c.if-publishes.false)) c.loop-i.invariant

pub returns-then-publishes : goal.returns-then-publishes
returns-then-publishes c =
    first_here (publishing c.args.header.now c.args.spot.now.place c.args.spot.now.pe) 0 c.args.log.now c.loop-i.i
    c.index-log-i.result c.loop-i-test.true c.index-log-i.is (ap (λ (x : Kept). publishes c.args.header.now c.args.spot.now.place c.args.spot.now.pe x.event (take c.loop-i.i c.args.log.now))
    c.index-log-i.is ∙ (sym c.publishes.ensures ∙ c.if-publishes.true)) zero-le c.loop-i.invariant

pub returns : goal.returns
returns c = none_left _ 0 c.args.log.now c.loop-i.i c.loop-i-test.false c.loop-i.invariant
