use Rattle.bbm_rules.proofs.Common.{Bool, ◌&&◌, not, sym, ◌∙◌, ap, take, reverse, IfOk-weaker, read_since, takes_tag}
use Rattle.bbm_claims.proofs.Takers.{taken_at}
use Rattle.bbm_claims.proofs.taken.is_taker.Goals as goal

pub returns-then-is_open : goal.returns-then-is_open
returns-then-is_open c =
    let unread : Bool = not (read_since c.args.header.now c.args.i c.args.taking.now.pe c.args.taking.now.tag
    (reverse c.args.before.now)) in
    IfOk-weaker c.takes_tag.result _ _
    (λ does k.
    taken_at c.args.header.now c.args.taking.now.pe c.args.taking.now.tag (c.known.ensures c.args.header.now)
    c.args.answer.now.issuer
    c.args.answer.now.dsb c.args.before.now c.args.i c.index-before-i.result c.requires c.index-before-i.is
    ∙ ap (λ (b : Bool). (b && takes_tag c.args.header.now c.index-before-i.result
    (reverse (take c.args.i c.args.before.now))
    c.args.taking.now.tag) && unread) (sym c.is_open.ensures ∙ c.if-is_open.true)
    ∙ ap (λ (b : Bool). b && unread) (sym k))
    c.takes_tag.ensures

pub returns-else-is_open : goal.returns-else-is_open
returns-else-is_open c =
    let unread : Bool = not (read_since c.args.header.now c.args.i c.args.taking.now.pe c.args.taking.now.tag
    (reverse c.args.before.now)) in
    taken_at c.args.header.now c.args.taking.now.pe c.args.taking.now.tag (c.known.ensures c.args.header.now)
    c.args.answer.now.issuer
    c.args.answer.now.dsb c.args.before.now c.args.i c.index-before-i.result c.requires c.index-before-i.is
    ∙ ap (λ (b : Bool). (b && takes_tag c.args.header.now c.index-before-i.result
    (reverse (take c.args.i c.args.before.now))
    c.args.taking.now.tag) && unread) (sym c.is_open.ensures ∙ c.if-is_open.false)
