use Rattle.bbm_certify.proofs.Common.{is_open}
use Rattle.bbm_rules.proofs.Common.{List, ap, sym, ◌∙◌, Event}
use Rattle.bbm_certify.proofs.Searches.{behind}
use Rattle.bbm_certify.proofs.Taking.{not_open}
use Rattle.bbm_certify.proofs.tags.is_taking.Goals as goal

pub returns-else-is_open : goal.returns-else-is_open
returns-else-is_open c =
    sym (not_open c.args.header.now c.args.holding.now.pe c.args.holding.now.tag c.args.answer.now.issuer
    c.args.answer.now.dsb c.args.before.now c.law_answered.ensures c.args.i c.index-before-i.result c.index-before-i.is
    (ap (λ (es : List Event). is_open c.args.answer.now.issuer c.index-before-i.result es)
    (sym (behind c.args.before.now c.args.i))
    ∙ (sym c.is_open.ensures ∙ c.if-is_open.false)))
