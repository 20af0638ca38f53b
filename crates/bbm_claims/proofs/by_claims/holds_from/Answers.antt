use Rattle.bbm_claims.proofs.Common.{has, Holding}
use Rattle.bbm_rules.proofs.Common.{List, sym, ◌∙◌, ap, arith, Listed, Event, Isb, holds_at}
use Rattle.bbm_claims.proofs.TagSteps.{first_of, holds_more}
use Rattle.bbm_claims.proofs.by_claims.holds_from.Goals as goal

pub loop-i-init : goal.loop-i-init
loop-i-init c = (
  omega arith,
  c.has-holds.ensures.is
      ∙ ap (λ (xs : List Holding). has xs c.args.asked.now.pe c.args.asked.now.root c.args.asked.now.tag)
      c.deref.ensures.value
      ∙ c.requires.4.held_is c.args.asked.now.pe c.args.asked.now.root c.args.asked.now.tag c.has-holds.ensures.below
      ∙ ap (λ (h : List Event). holds_at c.args.header.now (Listed c.args.evidence.now.claims.now) c.args.asked.now.pe
      c.args.asked.now.root c.args.asked.now.tag h)
      (sym (first_of c.args.events.now c.requires.0 c.requires.1 c.args.evidence.now.taken c.requires.2 c.requires.5)),
)

pub loop-i-preserved : goal.loop-i-preserved
loop-i-preserved c = (
  omega (arith, c.loop-i.invariant.0),
  holds_more c.args.header.now (Listed c.args.evidence.now.claims.now) c.args.asked.now.pe c.args.asked.now.root
      c.args.asked.now.tag c.args.events.now c.requires.0 c.requires.1 c.loop-i.i (Isb 0) c.requires.2 c.requires.3
      (omega (arith, c.requires.5, c.loop-i.invariant.0)) c.loop-i-test.true c.loop-i.holds c.in_ok-holds.holds
      c.loop-i.invariant.1 c.in_ok-holds.ensures,
)
