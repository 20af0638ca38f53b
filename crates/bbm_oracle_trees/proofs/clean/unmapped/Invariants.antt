use Rattle.bbm_rules.proofs.Common.{◌≡◌, ℕ, ◌&&◌, not, take, among}
use Rattle.bbm_oracle_trees.specs.MappedIn.{mapped_in}
use Rattle.bbm_oracle_trees.specs.Past.{notes}
use Rattle.bbm_oracle_trees.proofs.clean.unmapped.Given as goal

abbrev pub invariant-loop-node : goal.invariant-loop-node
invariant-loop-node g l = (q : ℕ) → among q l.left.items ≡ (among q l.fn.pages.items
    && not (mapped_in l.log.heading l.log.trust (notes l.log) q (take l.node-index l.nodes)))
