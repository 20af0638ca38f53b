use Rattle.bbm_claims.proofs.Common.{Tag, has}
use Rattle.bbm_rules.proofs.Common.{◌≡◌, ℕ, ◌&&◌, ◌||◌, ◌==◌, take, list_any, same_tag}
use Rattle.bbm_claims.proofs.holdings.add_readings.Given as goal

abbrev pub invariant-loop-reading : goal.invariant-loop-reading
invariant-loop-reading l = (p root : ℕ) (tag : Tag) → has l.held.items p root tag
    ≡ (has l.initial.held.items p root tag || (l.pe == p
    && list_any (λ r. same_tag r.tag tag && r.root == root) (take l.reading-index l.readings)))
