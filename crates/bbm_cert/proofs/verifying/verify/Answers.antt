use Rattle.bbm_rules.proofs.Common.{◌≡◌, ◌<◌, ◌∙◌, List, length, get_or, take, reverse, ap, arith, Event}
use Rattle.bbm_cert.proofs.Verified.{going_next, going_start, stopped}
use Rattle.bbm_cert.proofs.verifying.verify.Goals as goal

pub new-history-requires : goal.new-history-requires
new-history-requires c = c.new-evidence.ensures.taken c.args.header.now

pub loop-i-init : goal.loop-i-init
loop-i-init c =
    going_start c.new-history.result c.args.header.now c.args.claims.now.items c.new-evidence.result.claims.now
    c.new-history.ensures.is c.new-history.ensures.stands (c.new-evidence.ensures.claims ∙ c.as_slice.ensures.value)

pub loop-i-preserved : goal.loop-i-preserved
loop-i-preserved c =
    let log : List Event = c.args.log.now.items in
    let same : c.deref-event-items.result.now ≡ log = c.deref-event-items.ensures.value in
    let below : c.loop-i.i < length log = omega (arith, ap (λ (xs : List Event). length xs) same) in
    let is : c.event-item.result ≡ get_or log c.loop-i.i c.event-item.result = cc (c.event-item.is, same) in
    let h = reverse (take c.loop-i.i log) in
    going_next c.args.header.now c.args.claims.now.items c.loop-i.history log c.loop-i.i c.event-item.result below
    is c.loop-i.invariant c.take.new.self c.in_ok-said.said
    (c.in_ok-said.ensures c.args.header.now h c.loop-i.invariant.stands) c.in-Yes.is c.in_ok-take-in-Yes.ensures.trust
    (c.in_ok-take-in-Yes.ensures.stands c.args.header.now h c.loop-i.invariant.stands)

pub returns-in_default : goal.returns-in_default
returns-in_default c =
    let log : List Event = c.args.log.now.items in
    let same : c.deref-event-items.result.now ≡ log = c.deref-event-items.ensures.value in
    let below : c.loop-i.i < length log = omega (arith, ap (λ (xs : List Event). length xs) same) in
    let is : c.event-item.result ≡ get_or log c.loop-i.i c.event-item.result = cc (c.event-item.is, same) in
    stopped c.args.header.now c.args.claims.now.items c.loop-i.history log c.loop-i.i c.event-item.result below
    is c.loop-i.invariant c.in_ok-said.said
    (c.in_ok-said.ensures c.args.header.now (reverse (take c.loop-i.i log)) c.loop-i.invariant.stands)
    c.in_default.not-Yes
