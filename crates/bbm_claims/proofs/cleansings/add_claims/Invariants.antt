use Rattle.bbm_claims.proofs.Common.{notes_of, ends_now, tells}
use Rattle.bbm_rules.proofs.Common.{◌≡◌, ℕ, ◌||◌, take, reverse, list_any}
use Rattle.bbm_claims.proofs.cleansings.add_claims.Given as goal

abbrev pub invariant-loop-claim : goal.invariant-loop-claim
invariant-loop-claim l = (a p n : ℕ) → tells l.kept.items a p n ≡ (tells l.initial.kept.items a p n
    || list_any (ends_now l.header l.newest (notes_of (reverse l.log)) a p n) (take l.claim-index l.claims))
