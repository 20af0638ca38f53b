use Rattle.bbm_rules.proofs.Common.{◌≡◌, ℕ, ◌==◌, ◌&&◌, not, is_some, take, among}
use Rattle.std.specs.List.{find}
use Rattle.bbm_oracle_trees.proofs.fresh.unused.Given as goal

abbrev pub invariant-loop-page : goal.invariant-loop-page
invariant-loop-page l = (q : ℕ) → among q l.left.items
    ≡ (among q (take l.page-index l.pages) && not (is_some (find (λ n. n.page == q) l.tree)))
