use Rattle.bbm_rules.proofs.Common.{◌≡◌, ◌<◌, ℕ, slice_index_or}
use Rattle.bbm_tree_index.proofs.Common.{SameKeys, roles_of}
use Rattle.bbm_place_map.specs.Map.{lost_pages, pages_of}
use Rattle.bbm_tree_index.specs.Leaving.{Departs, IsStart, Start, Takes}
use Rattle.bbm_tree_index.specs.declared.leaving.Leaving.TheVariants.{Unheld}
use Rattle.bbm_tree_index.proofs.leaving.take_lost.Given as goal

abbrev pub invariant-loop-i : goal.invariant-loop-i
invariant-loop-i l = record {
  same : SameKeys l.initial.roles l.roles;
  pages : pages_of l.map ≡ pages_of l.initial.map;
  lost : lost_pages l.map ≡ lost_pages l.initial.map;
  taken : (s : Start) → IsStart s l.header Unheld → Departs s (roles_of l.initial.roles) l.initial.map
      → Takes s (λ p. (j : ℕ) × (j < l.i) × (slice_index_or (lost_pages l.initial.map) j p ≡ p))
      (roles_of l.initial.roles) (roles_of l.roles) l.map;
}
