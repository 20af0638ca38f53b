use Rattle.bbm_rules.proofs.Common.{◌≡◌, ◌<◌, ◌+◌, ◌*◌, ◌^◌, ℕ}
use Rattle.bbm_tree_index.proofs.Common.{SameKeys, roles_of}
use Rattle.bbm_place_map.specs.Map.{pages_of}
use Rattle.bbm_tree_index.specs.Leaving.{Departs, IsStart, Start, Takes}
use Rattle.bbm_tree_index.specs.declared.leaving.Leaving.TheVariants.{Root}
use Rattle.bbm_tree_index.proofs.leaving.take_root.Given as goal

abbrev pub invariant-loop-i : goal.invariant-loop-i
invariant-loop-i l = record {
  same : SameKeys l.initial.roles l.roles;
  pages : pages_of l.map ≡ pages_of l.initial.map;
  taken : (s : Start) → IsStart s l.header (Root l.first) → Departs s (roles_of l.initial.roles) l.initial.map
      → Takes s (λ p. ((j : ℕ) × (j < l.i) × (p ≡ l.first + 4096 * j)) × (p < 2 ^ 48))
      (roles_of l.initial.roles) (roles_of l.roles) l.map;
}
