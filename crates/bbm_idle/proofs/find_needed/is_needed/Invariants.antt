use Rattle.bbm_idle.proofs.Common.{needed_by}
use Rattle.bbm_rules.proofs.Common.{◌≡◌, ℕ, ◌<◌, false, reverse}
use Rattle.bbm_regimes.specs.PeMask.{pe_in}
use Rattle.bbm_idle.proofs.find_needed.is_needed.Given as goal

abbrev pub invariant-loop-number : goal.invariant-loop-number
invariant-loop-number l =
    (p : ℕ) → p < l.number → needed_by l.header (reverse l.before) l.event (pe_in l.effect.added) p ≡ false
