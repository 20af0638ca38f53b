-- Which changes keep an index and a map in agreement.
use Rattle.bbm_tree_index.proofs.Common.{PlaceMap, Agrees, core_at, core_with, TreeIndex, marks_at, value_at, child}
use Rattle.bbm_tree_index.proofs.Common.{next_in, node_in}
use Rattle.bbm_rules.proofs.Common.{◌≡◌, ℕ, Some, None, sym, ap, ◌∙◌, page_of, Node}

-- a place of a tree has the same marks and the same value
pub record SamePlace (map map' : PlaceMap) (a : ℕ) : Type 0 where
  pub marks : marks_at map' a ≡ marks_at map a
  pub value : value_at map' a ≡ value_at map a

pub next_same : (map map' : PlaceMap) (n : Node) (a : ℕ) → SamePlace map map' a
    → child (core_at map') n a ≡ child (core_at map) n a
next_same map map' n a s = ap (λ m. next_in (core_with m n.kind n.level (value_at map' a))) s.marks
    ∙ ap (λ v. next_in (core_with (marks_at map a) n.kind n.level v)) s.value

pub agrees_same : (old new : TreeIndex) (map map' : PlaceMap) → ((p : ℕ) → node_in new p ≡ node_in old p)
    → ((a : ℕ) (n : Node) → node_in old (page_of a) ≡ Some n → SamePlace map map' a)
    → ((a : ℕ) → marks_at map a ≡ None → marks_at map' a ≡ None)
    → Agrees old map → Agrees new map'
agrees_same old new map map' same places clean g = record {
  below = λ n place next at inside table.
      let was = sym (same (page_of place)) ∙ at in
      same next ∙ g.below n place next was inside (sym (next_same map map' n place (places place n was)) ∙ table);
  above = λ page m a rest at top.
      let found = g.above page m a rest (sym (same page) ∙ at) top in
      (found.0, same (page_of a.place) ∙ found.1, next_same map map' found.0 a.place (places a.place found.0 found.1) ∙ found.2);
  outside = λ place out. clean place (g.outside place (sym (same (page_of place)) ∙ out));
}
