use Rattle.bbm_certify.proofs.Common.{claim_key, less}
use Rattle.bbm_rules.proofs.Common.{◌≡◌, ◌≤◌, ◌∷◌, ◌++◌, false, List, length, Claim}
use Rattle.bbm_certify.proofs.sorted.count_before.Given as goal

abbrev pub invariant-loop-count : goal.invariant-loop-count
invariant-loop-count l = record {
  within : l.count ≤ length l.claims;
  above : (before after : List Claim) (x : Claim) → l.claims ≡ before ++ x ∷ after → l.count ≤ length before
      → less (claim_key x) (claim_key l.claim) ≡ false;
}

abbrev pub decreases-loop-count : goal.decreases-loop-count
decreases-loop-count l = l.count
