use Rattle.bbm_rules.proofs.Common.{◌≡◌, ℕ, ◌<◌, false, reverse, is_base_at}
use Rattle.bbm_oracle_rules.proofs.rules.is_base.Given as goal

abbrev pub invariant-loop-number : goal.invariant-loop-number
invariant-loop-number l = (p : ℕ) → p < l.number → is_base_at (reverse l.events) l.page p ≡ false
