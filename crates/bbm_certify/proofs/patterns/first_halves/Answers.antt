use Rattle.bbm_certify.proofs.Common.{Kept, AreEnds}
use Rattle.bbm_rules.proofs.Common.{None, Some, List, subst, arith}
use Rattle.bbm_certify.proofs.Ended.{halves_here, halves_more}
use Rattle.bbm_certify.proofs.Searches.{at_here, behind}
use Rattle.bbm_certify.proofs.patterns.first_halves.Goals as goal

pub loop-t-init : goal.loop-t-init
loop-t-init c = λ i wait gap above below x. absurd (omega (arith, above, below))

pub returns-in-Some : goal.returns-in-Some
returns-in-Some c =
    halves_here c.args.header.now c.args.spot.now.place c.args.spot.now.pe c.args.answer.now c.args.from c.args.log.now c.loop-t.t
    (at_here c.args.log.now c.loop-t.t c.index-log-t.result c.loop-t-test.true c.index-log-t.is) c.in-Some.ends c.loop-t.auto.t
    (subst (λ (ks : List Kept). AreEnds c.args.header.now c.args.spot.now.place c.args.spot.now.pe c.args.answer.now
    c.index-log-t.result ks (Some c.in-Some.ends)) (behind c.args.log.now c.loop-t.t) c.in-Some.ensures) c.loop-t.invariant

pub loop-t-preserved : goal.loop-t-preserved
loop-t-preserved c =
    halves_more c.args.header.now c.args.spot.now.place c.args.spot.now.pe c.args.answer.now c.args.from c.args.log.now c.loop-t.t
    (at_here c.args.log.now c.loop-t.t c.index-log-t.result c.loop-t-test.true c.index-log-t.is)
    (subst (λ (ks : List Kept). AreEnds c.args.header.now c.args.spot.now.place c.args.spot.now.pe c.args.answer.now
    c.index-log-t.result ks None) (behind c.args.log.now c.loop-t.t) c.in-None.ensures) c.loop-t.invariant

pub returns : goal.returns
returns c = λ i wait gap above below x. c.loop-t.invariant i wait gap above (omega (arith, below, c.loop-t-test.false)) x
