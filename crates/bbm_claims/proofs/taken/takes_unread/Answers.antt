use Rattle.bbm_rules.proofs.Common.{◌≡◌, true, reverse, refl, sym, ◌∙◌, arith, length-reverse, read_since}
use Rattle.bbm_claims.proofs.Lasting.{within_read}
use Rattle.bbm_claims.proofs.Takers.{none_taken, read_taken}
use Rattle.bbm_claims.proofs.taken.takes_unread.Goals as goal

pub returns-then-lasts : goal.returns-then-lasts
returns-then-lasts c =
    let read : read_since c.args.header.now c.in-Some.i c.args.taking.now.pe c.args.taking.now.tag
    (reverse c.args.before.now.events.now) ≡ true
    = within_read c.args.header.now c.args.taking.now.pe c.args.taking.now.tag c.in-Some.i
    (reverse c.args.before.now.events.now)
    (omega (arith, c.in-Some.ensures.found.0, length-reverse c.args.before.now.events.now))
    ∙ sym (c.requires c.args.taking.now.pe c.in-Some.i c.args.taking.now.tag c.lasts.ensures.below)
    ∙ sym c.lasts.ensures.is ∙ c.if-lasts.true in
    sym (read_taken c.args.header.now c.args.taking.now.pe c.args.taking.now.tag (c.known.ensures c.args.header.now)
    c.args.answer.now.issuer c.args.answer.now.dsb c.args.before.now.events.now c.args.taking.now.t c.in-Some.i
    c.in-Some.ensures.found.0 c.in-Some.ensures.found.1 read)

pub returns-in-None : goal.returns-in-None
returns-in-None c =
    sym (none_taken c.args.header.now c.args.taking.now.pe c.args.taking.now.tag (c.known.ensures c.args.header.now)
    c.args.answer.now.issuer c.args.answer.now.dsb c.args.taking.now.t c.args.before.now.events.now
    (c.in-None.ensures.none refl))
