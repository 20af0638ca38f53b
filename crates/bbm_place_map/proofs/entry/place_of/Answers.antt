use Rattle.bbm_place_map.proofs.Common.{ap, sym, ◌∙◌, arith, eqb-true, get_or_default, Pending}
use Rattle.bbm_place_map.proofs.entry.place_of.Goals as goal

pub returns-then-eq-clause-some : goal.returns-then-eq-clause-some
returns-then-eq-clause-some c = (
  omega arith,
  λ d. ap (λ (p : Pending). p.lane) (get_or_default c.args.pendings.now c.loop-i.i d _ (omega arith)) ∙ eqb-true _ _ (sym c.eq.ensures ∙ c.if-eq.true),
  c.loop-i.invariant,
)
