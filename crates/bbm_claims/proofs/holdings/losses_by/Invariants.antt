use Rattle.bbm_claims.proofs.Common.{Tag, is_lost}
use Rattle.bbm_rules.proofs.Common.{◌≡◌, ℕ, take, reverse, list_any}
use Rattle.bbm_histories.specs.ClaimSteps.{completes_taken}
use Rattle.bbm_claims.proofs.holdings.losses_by.Given as goal

abbrev pub invariant-loop-claim : goal.invariant-loop-claim
invariant-loop-claim l = (p : ℕ) (tag : Tag) → is_lost l.losses.items p tag
    ≡ list_any (completes_taken l.header p tag l.answer.issuer l.answer.dsb (reverse l.before.events.now))
    (take l.claim-index l.claims)
