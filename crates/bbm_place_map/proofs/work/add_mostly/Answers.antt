use Rattle.bbm_place_map.proofs.Common.{ℕ, Bool, not, ◌&&◌, nat_eq, inl, inr, ap, subst, sym, ◌∙◌, cases_Bool, eqb-true}
use Rattle.bbm_place_map.proofs.Common.{HoldsFor, pe_in}
use Rattle.bbm_place_map.proofs.Holding.{still_in}
use Rattle.bbm_place_map.proofs.work.add_mostly.Goals as goal

pub returns-then-not-is_empty : goal.returns-then-not-is_empty
returns-then-not-is_empty c = record {
  there = λ wide q below is.
      elim (cases_Bool (nat_eq q c.args.mostly)) [
        | inl same ↦
            let P : ℕ → Type 0 = λ x. HoldsFor c.add_for.new.lists.items x wide c.args.cell in
            c.add_writers.ensures.kept wide q c.args.cell (subst P (sym (eqb-true q c.args.mostly same)) (c.add_for.ensures.there wide))
        | inr other ↦
            c.add_writers.ensures.there wide q below
            (c.minus-others.ensures q ∙ ap (λ (b : Bool). b && not (pe_in c.one.result q)) is ∙ ap (λ (b : Bool). not b) (c.one.ensures q ∙ other))
      ];
  kept = λ wide q j holds. c.add_writers.ensures.kept wide q j (c.add_for.ensures.kept wide q j holds);
}

pub returns-else-not-is_empty : goal.returns-else-not-is_empty
returns-else-not-is_empty c = record {
  there = λ wide q below is.
      let P : ℕ → Type 0 = λ x. HoldsFor c.add_for.new.lists.items x wide c.args.cell in
      subst P
      (sym (eqb-true q c.args.mostly
      (sym (c.one.ensures q)
      ∙ still_in (pe_in c.args.writers q) (pe_in c.one.result q) (sym (c.minus-others.ensures q) ∙ c.is_empty.ensures.0 c.if-not-is_empty.false q) is)))
      (c.add_for.ensures.there wide);
  kept = c.add_for.ensures.kept;
}
