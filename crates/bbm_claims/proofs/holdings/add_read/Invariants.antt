use Rattle.bbm_claims.proofs.Common.{Tag, has, lasts}
use Rattle.bbm_rules.proofs.Common.{◌≡◌, ℕ, ◌&&◌, ◌||◌, nat_lt, reverse, reads, reads_for_some}
use Rattle.bbm_claims.proofs.holdings.add_read.Given as goal

abbrev pub invariant-loop-number : goal.invariant-loop-number
invariant-loop-number l =
    ((p root : ℕ) (tag : Tag) → has l.tags.held.items p root tag ≡ (has l.initial.tags.held.items p root tag
    || (nat_lt p l.number && reads l.header (reverse l.events) p tag root)))
    × ((p n : ℕ) (tag : Tag) → lasts l.tags.spans.items p tag n ≡ (lasts l.initial.tags.spans.items p tag n
    || (nat_lt p l.number && reads_for_some l.header (reverse l.events) p tag)))
    × (l.tags.left ≡ l.initial.tags.left)
