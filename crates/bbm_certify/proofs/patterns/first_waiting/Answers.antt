use Rattle.bbm_certify.proofs.Common.{Kept, answers, waiting}
use Rattle.bbm_rules.proofs.Common.{List, ap, sym, ◌∙◌, arith}
use Rattle.bbm_certify.proofs.Searches.{behind, first_here, none_left, none_more, none_yet}
use Rattle.bbm_certify.proofs.patterns.first_waiting.Goals as goal

pub loop-i-init : goal.loop-i-init
loop-i-init c = none_yet _ c.args.from c.args.log.now c.args.from (omega arith)

pub loop-i-preserved : goal.loop-i-preserved
loop-i-preserved c =
    none_more (waiting c.args.header.now c.args.spot.now.place c.args.spot.now.pe c.args.cover c.args.answer.now) c.args.from
    c.args.log.now c.loop-i.i c.index-log-i.result c.loop-i-test.true c.index-log-i.is
    (ap (λ (ks : List Kept). answers c.args.header.now c.args.spot.now.place c.args.spot.now.pe c.args.cover c.args.answer.now
    c.index-log-i.result ks) (sym (behind c.args.log.now c.loop-i.i)) ∙ (sym c.answers.ensures ∙ c.if-answers.false))
    c.loop-i.invariant

pub returns-then-answers : goal.returns-then-answers
returns-then-answers c =
    first_here (waiting c.args.header.now c.args.spot.now.place c.args.spot.now.pe c.args.cover c.args.answer.now) c.args.from
    c.args.log.now c.loop-i.i c.index-log-i.result c.loop-i-test.true c.index-log-i.is
    (ap (λ (ks : List Kept). answers c.args.header.now c.args.spot.now.place c.args.spot.now.pe c.args.cover c.args.answer.now
    c.index-log-i.result ks) (sym (behind c.args.log.now c.loop-i.i)) ∙ (sym c.answers.ensures ∙ c.if-answers.true))
    c.loop-i.auto.i c.loop-i.invariant

pub returns : goal.returns
returns c = none_left _ c.args.from c.args.log.now c.loop-i.i c.loop-i-test.false c.loop-i.invariant
