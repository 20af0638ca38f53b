use Rattle.bbm_certify.proofs.Common.{IsCertificate, IsMaking}
use Rattle.bbm_rules.proofs.Common.{◌≡◌, ◌∷◌, ◌++◌, ◌+◌, ◌<◌, true, List, length, take, reverse, ap, subst, ◌∙◌, arith}
use Rattle.bbm_rules.proofs.Common.{take_all, reverse_more, fits_heading, Claim, keeps, Patterns, Event}
use Rattle.bbm_lemmas.proofs.Reversed.{passes_at}
use Rattle.bbm_certify.proofs.Finished.{certificate_next, first_count, keeps_first}
use Rattle.bbm_certify.proofs.making.make.Goals as goal

pub loop-event-init : goal.loop-event-init
loop-event-init c = record { making = c.new-making.ensures; claims = c.new-claims.ensures.items }

pub take-requires-clause-fits : goal.take-requires-clause-fits
take-requires-clause-fits c =
    passes_at (fits_heading c.args.header.now) c.args.log.now c.loop-event.event-index c.event-item.result c.requires.fit
    c.loop-event-test.true c.event-item.is

pub take-requires-clause-heading : goal.take-requires-clause-heading
take-requires-clause-heading c = c.loop-event.invariant.making.history.kept.heading_is

pub take-requires-clause-few : goal.take-requires-clause-few
take-requires-clause-few c =
    let few : length c.args.log.now < 4294967296 = c.requires.few in
    omega (
      arith,
      few,
      c.loop-event-test.true,
      first_count c.loop-event.making.history c.args.header.now c.args.log.now c.loop-event.event-index c.loop-event.auto.event-index-end
          c.loop-event.invariant.making.history,
    )

pub loop-event-preserved : goal.loop-event-preserved
loop-event-preserved c =
    let heading = c.args.header.now in
    let i = c.loop-event.event-index in
    let h = reverse (take i c.args.log.now) in
    let e = c.event-item.result in
    let more : e ∷ h ≡ reverse (take (i + 1) c.args.log.now)
    = reverse_more c.args.log.now i e c.loop-event-test.true c.event-item.is in
    let kept : keeps heading Patterns (e ∷ h) ≡ true
    = ap (λ (es : List Event). keeps heading Patterns es) more ∙ keeps_first heading c.args.log.now (i + 1) c.requires.kept in
    record {
      making = subst (λ (es : List Event). IsMaking c.take.new.self heading es) more
          (c.in_ok-due.ensures.stands h c.loop-event.invariant.making kept);
      claims = certificate_next heading h (reverse (take (i + 1) c.args.log.now)) e c.loop-event.claims.items c.in_ok-due.due.items
          c.append.new.claims.items more c.loop-event.invariant.claims (c.in_ok-due.ensures.due h c.loop-event.invariant.making kept)
          (c.in_ok-append.ensures ∙ ap (λ (cs : List Claim). c.loop-event.claims.items ++ cs) c.deref.ensures.value);
    }

pub returns : goal.returns
returns c = record {
  exact = subst (λ (es : List Event). IsCertificate c.args.header.now (reverse es) c.loop-event.claims.items)
      (take_all c.loop-event.event-index c.args.log.now c.loop-event-test.false) c.loop-event.invariant.claims;
}
