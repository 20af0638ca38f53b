use Rattle.bbm_claims.proofs.Common.{Tag, lasts}
use Rattle.bbm_rules.proofs.Common.{◌≡◌, ℕ, ◌&&◌, nat_lt, take}
use Rattle.bbm_claims.proofs.spans.all_ended.Given as goal

abbrev pub invariant-loop-span : goal.invariant-loop-span
invariant-loop-span l = (p n : ℕ) (tag : Tag) → lasts l.next.items p tag n
    ≡ (lasts (take l.span-index l.spans) p tag n && nat_lt n l.count)
