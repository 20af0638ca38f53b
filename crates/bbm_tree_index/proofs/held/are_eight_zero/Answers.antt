use Rattle.bbm_tree_index.proofs.Common.{bit_or}
use Rattle.bbm_rules.proofs.Common.{◌≡◌, ◌+◌, inl, inr, arith, cases_lt, eqb-true}
use Rattle.bbm_tree_index.proofs.Joined.{zero_left, zero_right}
use Rattle.bbm_tree_index.proofs.held.are_eight_zero.Goals as goal

pub returns : goal.returns
returns c = λ yes j low high.
    let a = c.four_joined.result in
    let b = c.four_joined-2.result in
    let none : bit_or a b ≡ 0 = eqb-true (bit_or a b) 0 yes in
    elim (cases_lt j (c.args.from + 4)) [
      | inl less ↦ c.four_joined.ensures (zero_left a b none) j low less
      | inr more ↦ c.four_joined-2.ensures (zero_right a b none) j more (omega (arith, high))
    ]
