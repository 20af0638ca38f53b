use Rattle.bbm_unmapped.proofs.Common.{HeldUnder}
use Rattle.bbm_rules.proofs.Common.{ℕ, ◌<◌}
use Rattle.bbm_unmapped.proofs.unmapped.Unmapped.is_held_over.Given as goal

abbrev pub invariant-loop-number : goal.invariant-loop-number
invariant-loop-number l = (j : ℕ) → j < l.number → HeldUnder l.self l.index l.map l.page j → ⊥
