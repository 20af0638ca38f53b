-- Where no place is broken over a table, no place is in limbo.
use Rattle.bbm_replay.proofs.Common.{node_in, marks_at, value_at, Marks, PlaceMap, Kind, core_with, limbo_by, next_in}
use Rattle.bbm_replay.proofs.Common.{TreeIndex, Laws, view_of, Told}
use Rattle.bbm_rules.proofs.Common.{◌≡◌, ℕ, true, false, not, List, [], ◌∷◌, Option, Some, None, refl, sym, ◌∙◌, ap}
use Rattle.bbm_rules.proofs.Common.{option_map_or, core_of, is_valid, any, page_of, Heading, Event, Above, Node}
use Rattle.bbm_rules.proofs.Common.{or_from, arith}
use Rattle.bbm_replay.specs.ReplayStanding.{OverLeaves}
use Rattle.bbm_replay.proofs.Cases.{some_or}
use Rattle.bbm_replay.proofs.Entries.{some_next}
use Rattle.bbm_replay.proofs.Writing.{cores}

-- a place that isn't broken over a table, and holds one, has the value of one
bare_table : (kind : Kind) (level value p : ℕ) (o : Option Marks)
    → ((marks : Marks) → o ≡ Some marks → next_in (Some marks.core) ≡ None)
    → next_in (core_with o kind level value) ≡ Some p → next_in (core_of kind level value) ≡ Some p
bare_table kind level value p o low table = grind arith

module _ {heading : Heading} (laws : Laws heading) {h : List Event} (map : PlaceMap) (index : TreeIndex)
    (told : Told heading h (view_of map index)) (low : OverLeaves map) where
  above_valid : (kind : Kind) (above : List Above) (p : ℕ) (m : Node) → node_in index p ≡ Some m → m.kind ≡ kind
      → m.above ≡ above → any (λ a. not (is_valid kind a.level (value_at map a.place))) above ≡ false
  above_valid kind [] p m is same up = refl
  above_valid kind (x ∷ above) p m is same up =
      let hangs = laws.neighbours.up h (view_of map index) p m x above told.kept told.fit told.nodes
      (cores told) is up in
      let parent = hangs.parent in
      let value = value_at map x.place in
      let own : parent.kind ≡ kind = sym (ap (λ (n : Node). n.kind) hangs.is_below) ∙ same in
      let both = parts (record { place = x.place; level = parent.level }) x parent.above above
      (sym (ap (λ (n : Node). n.above) hangs.is_below) ∙ up) in
      let bare : next_in (core_of parent.kind parent.level value) ≡ Some m.page
      = bare_table parent.kind parent.level value m.page (marks_at map x.place) (low x.place) hangs.table in
      let good : is_valid kind x.level value ≡ true
      = cc (own, both.0, laws.core_where_valid parent.kind parent.level value, some_next (core_of parent.kind parent.level value) m.page bare) in
      or_from (not (is_valid kind x.level value)) (any (λ a. not (is_valid kind a.level (value_at map a.place))) above)
      (ap (λ b. not b) good) (above_valid kind above (page_of x.place) parent hangs.is_parent own both.1)
    where
      parts : (y z : Above) (ys zs : List Above) → y ∷ ys ≡ z ∷ zs → (y ≡ z) × (ys ≡ zs)
      parts y z ys zs e = (cc, cc)

  pub no_limbo : (place : ℕ) → option_map_or (limbo_by (value_at map)) (node_in index (page_of place)) false ≡ false
  no_limbo place = some_or (node_in index (page_of place))
      (λ n e. ap (λ (o : Option Node). option_map_or (limbo_by (value_at map)) o false) e
      ∙ above_valid n.kind n.above (page_of place) n e refl refl)
      (λ e. ap (λ (o : Option Node). option_map_or (limbo_by (value_at map)) o false) e)
