use Rattle.bbm_place_map.proofs.Common.{ℕ, subst, HoldsFor}
use Rattle.bbm_place_map.proofs.work.add_writer.Goals as goal

pub returns-then-has-clause-there : goal.returns-then-has-clause-there
returns-then-has-clause-there c = λ wide _.
    let P : ℕ → Type 0 = λ x. HoldsFor c.add_for.new.lists.items x wide c.args.cell in
    subst P c.in-Some.ensures.value (c.add_for.ensures.there wide)
