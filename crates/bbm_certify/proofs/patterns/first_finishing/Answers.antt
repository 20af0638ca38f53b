use Rattle.bbm_certify.proofs.Common.{Kept, finishes, finishing}
use Rattle.bbm_rules.proofs.Common.{List, ap, sym, ◌∙◌, zero-le}
use Rattle.bbm_certify.proofs.Searches.{behind, first_here, none_left, none_more, none_yet}
use Rattle.bbm_certify.proofs.patterns.first_finishing.Goals as goal

pub loop-i-init : goal.loop-i-init
loop-i-init c = none_yet _ 0 c.args.log.now 0 zero-le

pub loop-i-preserved : goal.loop-i-preserved
loop-i-preserved c =
    none_more (finishing c.args.place c.args.answer.now) 0 c.args.log.now c.loop-i.i c.index-log-i.result c.loop-i-test.true
    c.index-log-i.is (ap (λ (ks : List Kept). finishes c.args.place c.args.answer.now c.index-log-i.result ks)
    (sym (behind c.args.log.now c.loop-i.i)) ∙ (sym c.finishes.ensures ∙ c.if-finishes.false)) c.loop-i.invariant

pub returns-then-finishes : goal.returns-then-finishes
returns-then-finishes c =
    first_here (finishing c.args.place c.args.answer.now) 0 c.args.log.now c.loop-i.i c.index-log-i.result c.loop-i-test.true
    c.index-log-i.is (ap (λ (ks : List Kept). finishes c.args.place c.args.answer.now c.index-log-i.result ks)
    (sym (behind c.args.log.now c.loop-i.i)) ∙ (sym c.finishes.ensures ∙ c.if-finishes.true)) zero-le c.loop-i.invariant

pub returns : goal.returns
returns c = none_left _ 0 c.args.log.now c.loop-i.i c.loop-i-test.false c.loop-i.invariant
