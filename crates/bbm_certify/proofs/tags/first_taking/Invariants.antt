use Rattle.bbm_certify.proofs.Common.{takes}
use Rattle.bbm_rules.proofs.Common.{◌≡◌, ◌≤◌, ℕ, false, reverse}
use Rattle.bbm_certify.proofs.tags.first_taking.Given as goal

abbrev pub invariant-loop-i : goal.invariant-loop-i
invariant-loop-i l = (n : ℕ) → n ≤ l.i → takes l.header l.holding.pe l.holding.tag l.answer.issuer l.answer.dsb
    (reverse l.before) n ≡ false
