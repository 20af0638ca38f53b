use Rattle.bbm_certify.proofs.Common.{Kept, answering, answers}
use Rattle.bbm_rules.proofs.Common.{ap, sym, take, ◌∙◌, zero-le, Half}
use Rattle.bbm_certify.proofs.Ended.{no_flush}
use Rattle.bbm_certify.proofs.Searches.{first_here, none_left, none_more, none_yet}
use Rattle.bbm_certify.proofs.patterns.answer_of.Goals as goal

pub returns-then-not-flushes : goal.returns-then-not-flushes
returns-then-not-flushes c = λ before after k split above below.
    no_flush c.args.header.now c.args.spot.now.place c.args.spot.now.pe Half k.event c.args.tlbi.now before
    (sym c.flushes.ensures ∙ c.if-not-flushes.true)

pub loop-i-init : goal.loop-i-init
loop-i-init c = none_yet _ 0 c.args.later.now 0 zero-le

pub loop-i-preserved : goal.loop-i-preserved
loop-i-preserved c =
    none_more (answering c.args.header.now c.args.spot.now.place c.args.spot.now.pe c.args.tlbi.now) 0 c.args.later.now c.loop-i.i
    c.index-later-i.result c.loop-i-test.true c.index-later-i.is (ap (λ (x : Kept). answers c.args.header.now c.args.spot.now.place c.args.spot.now.pe Half x.event c.args.tlbi.now
    (take c.loop-i.i c.args.later.now)) c.index-later-i.is ∙ (sym c.answers.ensures ∙ c.if-answers.false)) c.loop-i.invariant

pub returns-then-answers : goal.returns-then-answers
returns-then-answers c =
    first_here (answering c.args.header.now c.args.spot.now.place c.args.spot.now.pe c.args.tlbi.now) 0
    c.args.later.now c.loop-i.i c.index-later-i.result c.loop-i-test.true c.index-later-i.is
    (ap (λ (x : Kept). answers c.args.header.now c.args.spot.now.place c.args.spot.now.pe Half x.event c.args.tlbi.now
    (take c.loop-i.i c.args.later.now)) c.index-later-i.is ∙ (sym c.answers.ensures ∙ c.if-answers.true)) zero-le c.loop-i.invariant

pub returns : goal.returns
returns c = none_left _ 0 c.args.later.now c.loop-i.i c.loop-i-test.false c.loop-i.invariant
