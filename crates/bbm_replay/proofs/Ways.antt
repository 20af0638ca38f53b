-- Going down a tree along an input page.
use Rattle.bbm_replay.proofs.Common.{option_map, core_in, Marks, state_from, PlaceMap, IsWay, Translates, core_at}
use Rattle.bbm_replay.proofs.Common.{core_with, is_at, next_in, is_sound, path_at, TreeIndex, Path, IsOnWay}
use Rattle.bbm_rules.proofs.Common.{◌≡◌, ℕ, suc, ◌+◌, ◌*◌, ◌^◌, ◌<◌, ◌≤◌, true, List, [], ◌∷◌, Option, Some}
use Rattle.bbm_rules.proofs.Common.{None, ◌⊎◌, inl, inr, refl, sym, ap, ◌∙◌, subst, arith, and_parts, eqb-true, core_of}
use Rattle.bbm_rules.proofs.Common.{Core, Kind, page_of, input_pages, Node, node_below, region_start}
use Rattle.bbm_tree_index.specs.Descent.{MayHang}
use Rattle.bbm_tree_index.specs.Index.{node_in}
use Rattle.bbm_replay.specs.OnePage.{FitTogether}

-- where no place of a page translates the input page, no way goes on through the page
module _ (node : ℕ → Option Node) (core : Kind → ℕ → ℕ → Option Core) (at page : ℕ)
    (none : (n : Node) (a : ℕ) → node page ≡ Some n → Translates page n at a → ⊥) where
  pub no_way : (way : List ℕ) (a : ℕ) → IsWay node core at page way a → ⊥
  no_way [] a w = none w.0 a w.1 w.2
  no_way (b ∷ way) a w = none w.0 b w.1 w.2

-- the way down through the page of a place that is on it
module _ (node : ℕ → Option Node) (core : Kind → ℕ → ℕ → Option Core) (at place : ℕ) (path : Path)
    (on : IsOnWay node at place path) (next : Option ℕ) (goes : next ≡ next_in (core path.kind path.level place)) where
  same_node : (k : Node) → node (page_of place) ≡ Some k → on.stands ≡ k
  same_node k has = let both : Some on.stands ≡ Some k = sym on.is_node ∙ has in cc

  same_place : (k : Node) (a : ℕ) → node (page_of place) ≡ Some k → Translates (page_of place) k at a → place ≡ a
  same_place k a has t =
      on.only a (subst (λ (y : Node). Translates (page_of place) y at a) (sym (same_node k has)) t)

  pub its_next : next ≡ next_in (core on.stands.kind on.stands.level place)
  its_next = goes ∙ ap (λ (y : Path). next_in (core y.kind y.level place)) on.has_path

  went : (k : Node) (b x : ℕ) → node (page_of place) ≡ Some k → Translates (page_of place) k at b
      → next_in (core k.kind k.level b) ≡ Some x → next ≡ Some x
  went k b x has t table =
      its_next ∙ ap (λ (y : Node). next_in (core y.kind y.level place)) (same_node k has)
      ∙ ap (λ p. next_in (core k.kind k.level p)) (same_place k b has t) ∙ table

  -- it ends here, or goes on in the next page
  pub way_ends : next ≡ None → (way : List ℕ) (a : ℕ) → IsWay node core at (page_of place) way a → place ≡ a
  way_ends none [] a w = same_place w.0 a w.1 w.2
  way_ends none (b ∷ way) a w = let bad : None ≡ Some w.3 = sym none ∙ went w.0 b w.3 w.1 w.2 w.4 in cc

  pub way_goes : (x : ℕ) → next ≡ Some x → (Has : ℕ → Type 0) → Has place
      → ((way : List ℕ) (a : ℕ) → IsWay node core at x way a → Has a)
      → (way : List ℕ) (a : ℕ) → IsWay node core at (page_of place) way a → Has a
  way_goes x some Has here below [] a w = subst Has (same_place w.0 a w.1 w.2) here
  way_goes x some Has here below (b ∷ way) a w =
      let both : Some x ≡ Some w.3 = sym some ∙ went w.0 b w.3 w.1 w.2 w.4 in
      let same : x ≡ w.3 = cc in
      below way a (subst (λ y. IsWay node core at y way a) (sym same) w.5)

-- the place of a page that translates an input page is on the way
pub on_way : (node : ℕ → Option Node) (at page : ℕ) (n : Node) → node page ≡ Some n → (met : Option (ℕ × Path))
    (m : ℕ × Path) → met ≡ Some m → is_at page m.0 ≡ true → m.1 ≡ path_at n m.0
    → ((a : ℕ) → Translates page n at a → option_map (λ y. y.0) met ≡ Some a) → IsOnWay node at m.0 m.1
on_way node at page n is met m some inside path meets = record {
  stands = n;
  is_node = ap (λ p. node p) own ∙ is;
  has_path = path;
  only = λ a t.
      let both : Some m.0 ≡ Some a
      = sym (ap (λ y. option_map (λ z. z.0) y) some) ∙ meets a (subst (λ p. Translates p n at a) own t) in cc;
}
  where
    own : page_of m.0 ≡ page
    own = eqb-true (page_of m.0) page (and_parts _ _ inside).0

-- a place is met on the way down from the place at which one is, if one is at any
abbrev pub IsAhead : (ℕ → Option Node) → (Kind → ℕ → ℕ → Option Core) → ℕ → Option (ℕ × Path) → ℕ → Type 0
IsAhead node core at here a =
    (m : ℕ × Path) × (here ≡ Some m) × (way : List ℕ) × IsWay node core at (page_of m.0) way a

-- what is met on the way down from a page is met from its place that translates the input page on
pub ahead : (node : ℕ → Option Node) (core : Kind → ℕ → ℕ → Option Core) (at page : ℕ) (met : Option (ℕ × Path))
    → ((m : ℕ × Path) → met ≡ Some m → is_at page m.0 ≡ true)
    → ((n : Node) (a : ℕ) → node page ≡ Some n → Translates page n at a → option_map (λ y. y.0) met ≡ Some a)
    → (way : List ℕ) (a : ℕ) → IsWay node core at page way a → IsAhead node core at met a
ahead node core at page None inside meets way a w =
    absurd (no_way node core at page (λ n b is t. let bad : None ≡ Some b = meets n b is t in cc) way a w)
ahead node core at page (Some m) inside meets way a w =
    let own = eqb-true (page_of m.0) page (and_parts _ _ (inside m refl)).0 in
    (m, refl, way, subst (λ p. IsWay node core at p way a) (sym own) w)

-- below a place on the way, which holds a table
module _ (map : PlaceMap) (index : TreeIndex) (fits : FitTogether map index) (at place : ℕ)
    (path : Path) (on : IsOnWay (node_in index) at place path) (next : Option ℕ)
    (goes : next ≡ next_in (core_at map path.kind path.level place)) (x : ℕ) (table : next ≡ Some x) where
  pub hangs : node_in index x ≡ Some (node_below on.stands place x)
  hangs = fits.below on.stands place x on.is_node
      (sym (its_next (node_in index) (core_at map) at place path on next goes) ∙ table)

  in_range : (suc on.stands.level < 4)
      × (region_start on.stands place + 512 * input_pages (suc on.stands.level) ≤ 2 ^ 45)
  unfolding node_in
  in_range = (
    (is_sound index).roles.shallow x (node_below on.stands place x) hangs,
    (is_sound index).roles.within x (node_below on.stands place x) hangs,
  )

  pub may_hang : MayHang path
  may_hang = record {
    low =
        let same : path.level ≡ on.stands.level = ap (λ (y : Path). y.level) on.has_path in
        let low : suc on.stands.level < 4 = in_range.0 in
        omega arith;
    within = subst (λ (y : Path). y.region.lo + 512 * input_pages (suc y.level) ≤ 2 ^ 45) (sym on.has_path) in_range.1;
  }

  -- what is met on the way down through the place has the property, or is met below it
  pub goes_on : (below : Option (ℕ × Path)) → ((m : ℕ × Path) → below ≡ Some m → is_at x m.0 ≡ true)
      → ((n : Node) (a b : ℕ) → path ≡ path_at n a → Translates x (node_below n a x) at b
      → option_map (λ y. y.0) below ≡ Some b) → (Has : ℕ → Type 0) → Has place
      → (way : List ℕ) (a : ℕ) → IsWay (node_in index) (core_at map) at (page_of place) way a
      → Has a ⊎ IsAhead (node_in index) (core_at map) at below a
  goes_on below inside meets Has here =
      way_goes (node_in index) (core_at map) at place path on next goes x table
      (λ a. Has a ⊎ IsAhead (node_in index) (core_at map) at below a) (inl here)
      (λ way a w. inr (ahead (node_in index) (core_at map) at x below inside (λ n b is t.
      meets on.stands place b on.has_path (subst (λ (y : Node). Translates x y at b) (same n is) t)) way a w))
    where
      same : (n : Node) → node_in index x ≡ Some n → n ≡ node_below on.stands place x
      same n is = let both : Some n ≡ Some (node_below on.stands place x) = sym is ∙ hangs in cc

  pub on_way_below : (below : Option (ℕ × Path)) (m : ℕ × Path) → below ≡ Some m → is_at x m.0 ≡ true
      → ((n : Node) (a : ℕ) → path ≡ path_at n a → m.1 ≡ path_at (node_below n a x) m.0)
      → ((n : Node) (a b : ℕ) → path ≡ path_at n a → Translates x (node_below n a x) at b
      → option_map (λ y. y.0) below ≡ Some b) → IsOnWay (node_in index) at m.0 m.1
  on_way_below below m is inside has meets =
      on_way (node_in index) at x (node_below on.stands place x) hangs below m is inside
      (has on.stands place on.has_path) (λ a. meets on.stands place a on.has_path)

-- the core of a state is what its place holds
pub state_core : (kind : Kind) (level value : ℕ) (m : Option Marks)
    → core_in (state_from (core_of kind level value) m) ≡ core_with m kind level value
state_core kind level value m = grind arith
