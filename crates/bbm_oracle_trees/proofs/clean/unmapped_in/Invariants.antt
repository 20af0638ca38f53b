use Rattle.bbm_rules.proofs.Common.{◌≡◌, ℕ, ◌&&◌, not, take, among, any}
use Rattle.bbm_rules.specs.Mapped.{place_maps}
use Rattle.bbm_oracle_trees.specs.Past.{notes}
use Rattle.bbm_oracle_trees.proofs.clean.unmapped_in.Given as goal

abbrev pub invariant-loop-place : goal.invariant-loop-place
invariant-loop-place g l = (q : ℕ) → among q l.left.items ≡ (among q l.fn.pages.items
    && not (any (place_maps l.log.heading l.log.trust (notes l.log) l.node q) (take l.place-index l.place-items)))
