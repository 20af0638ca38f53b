use Rattle.bbm_claims.proofs.Common.{Tag, has, stays_kept}
use Rattle.bbm_rules.proofs.Common.{◌≡◌, ℕ, ◌&&◌, take, reverse}
use Rattle.bbm_claims.proofs.holdings.keep_all.Given as goal

abbrev pub invariant-loop-holding : goal.invariant-loop-holding
invariant-loop-holding l = (p root : ℕ) (tag : Tag) → has l.kept.items p root tag
    ≡ (has (take l.holding-index l.held) p root tag && stays_kept l.header (reverse l.events) l.losses p tag)
