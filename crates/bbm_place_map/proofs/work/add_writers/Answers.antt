use Rattle.bbm_place_map.proofs.Common.{◌≡◌, ℕ, true, arith, inl, inr, subst, sym, cases_eq, HoldsFor, pe_in}
use Rattle.bbm_place_map.proofs.work.add_writers.Goals as goal

pub loop-i-preserved : goal.loop-i-preserved
loop-i-preserved c = record {
  there = λ wide q below is.
      elim (cases_eq q c.loop-i.i) [
        | inl same ↦
            let P : ℕ → Type 0 = λ x. pe_in c.args.writers x ≡ true → HoldsFor c.add_writer.new.lists.items x wide c.args.cell in
            subst P (sym same) (c.add_writer.ensures.there wide) is
        | inr other ↦ c.add_writer.ensures.kept wide q c.args.cell (c.loop-i.invariant.there wide q (omega arith) is)
      ];
  kept = λ wide q j holds. c.add_writer.ensures.kept wide q j (c.loop-i.invariant.kept wide q j holds);
}

pub returns : goal.returns
returns c = record {
  there = λ wide q below is. c.loop-i.invariant.there wide q (omega arith) is;
  kept = c.loop-i.invariant.kept;
}
