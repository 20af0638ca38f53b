use Rattle.bbm_rules.proofs.Common.{◌≡◌, ℕ, ◌&&◌, not, take, among}
use Rattle.bbm_rules.specs.Mapped.{maps}
use Rattle.bbm_oracle_trees.proofs.clean.unmapped_by.Given as goal

abbrev pub invariant-loop-page : goal.invariant-loop-page
invariant-loop-page l = (q : ℕ) → among q l.left.items
    ≡ (among q (take l.page-index l.pages) && not (maps l.kind l.level l.value q))
