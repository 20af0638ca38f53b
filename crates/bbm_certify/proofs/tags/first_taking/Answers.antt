use Rattle.bbm_rules.proofs.Common.{◌+◌, refl, sym, ◌∙◌}
use Rattle.bbm_certify.proofs.Taking.{first_found, none_at_0, none_found, none_more}
use Rattle.bbm_certify.proofs.tags.first_taking.Goals as goal

pub loop-i-init : goal.loop-i-init
loop-i-init c =
    none_at_0 c.args.header.now c.args.holding.now.pe c.args.holding.now.tag c.args.answer.now.issuer
    c.args.answer.now.dsb c.args.before.now c.law_answered.ensures

pub loop-i-preserved : goal.loop-i-preserved
loop-i-preserved c =
    none_more c.args.header.now c.args.holding.now.pe c.args.holding.now.tag c.args.answer.now.issuer
    c.args.answer.now.dsb c.args.before.now c.law_answered.ensures c.loop-i.i c.loop-i.invariant
    (sym c.in_ok-does.ensures ∙ c.if-does.false)

pub returns-then-does : goal.returns-then-does
returns-then-does c =
    first_found c.args.header.now c.args.holding.now.pe c.args.holding.now.tag c.args.answer.now.issuer
    c.args.answer.now.dsb c.args.before.now c.law_answered.ensures c.loop-i.i (c.loop-i.i + 1) refl c.loop-i.invariant
    (sym c.in_ok-does.ensures ∙ c.if-does.true)

pub returns : goal.returns
returns c =
    none_found c.args.header.now c.args.holding.now.pe c.args.holding.now.tag c.args.answer.now.issuer
    c.args.answer.now.dsb c.args.before.now c.law_answered.ensures c.loop-i.i c.loop-i-test.false c.loop-i.invariant
