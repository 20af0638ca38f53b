use Rattle.bbm_claims.proofs.Common.{tells}
use Rattle.bbm_rules.proofs.Common.{◌≡◌, ℕ, take}
use Rattle.bbm_regimes.specs.PeMask.{pe_in}
use Rattle.bbm_claims.proofs.cleansings.cleansed_since.Given as goal

abbrev pub invariant-loop-cleansing : goal.invariant-loop-cleansing
invariant-loop-cleansing l = (p : ℕ) → pe_in l.pes p ≡ tells (take l.cleansing-index l.kept) l.place p l.from
