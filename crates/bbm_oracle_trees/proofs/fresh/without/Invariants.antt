use Rattle.bbm_rules.proofs.Common.{◌≡◌, ℕ, ◌==◌, ◌&&◌, not, take, among}
use Rattle.bbm_oracle_trees.proofs.fresh.without.Given as goal

abbrev pub invariant-loop-page : goal.invariant-loop-page
invariant-loop-page l = (q : ℕ) → among q l.left.items ≡ (not (l.but == q) && among q (take l.page-index l.pages))
