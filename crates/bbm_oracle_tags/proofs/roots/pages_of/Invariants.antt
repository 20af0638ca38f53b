use Rattle.bbm_rules.proofs.Common.{◌≡◌, map, take}
use Rattle.bbm_oracle_tags.proofs.roots.pages_of.Given as goal

abbrev pub invariant-loop-root : goal.invariant-loop-root
invariant-loop-root l = l.pages.items ≡ map (λ r. r.page) (take l.root-index l.roots)
