use Rattle.bbm_claims.proofs.Common.{Tag, lasts}
use Rattle.bbm_rules.proofs.Common.{◌≡◌, ℕ, ◌&&◌, ◌||◌, ◌==◌, take, list_any, same_tag}
use Rattle.bbm_claims.proofs.spans.show_all.Given as goal

abbrev pub invariant-loop-reading : goal.invariant-loop-reading
invariant-loop-reading l = (p n : ℕ) (g : Tag) → lasts l.spans.items p g n
    ≡ (lasts l.initial.spans.items p g n || (l.pe == p
    && list_any (λ r. same_tag r.tag g) (take l.reading-index l.readings)))
