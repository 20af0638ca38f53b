-- Pages no place of which has a value or is broken.
use Rattle.bbm_place_map.proofs.Common.{◌≡◌, ℕ, ◌+◌, ◌*◌, ◌/◌, ◌%◌, ◌<◌, Option, Some, None, refl, ap, sym, ◌∙◌}
use Rattle.bbm_place_map.proofs.Common.{none-some, bases, value_in, marks_of, entry_at, place_entry, at_index, index_of}
use Rattle.bbm_place_map.proofs.Common.{Entry, PlaceMap, arith}
use Rattle.bbm_place_map.proofs.Places.{cell_of, eighth_at, index_from, number_at, page_at}
use Rattle.bbm_place_map.specs.Map.{marks_at, value_at}

pub no_entry : (o : Option Entry) → marks_of o ≡ None → o ≡ None
no_entry None h = refl
no_entry (Some e) h = absurd (none-some e.marks (sym h))

-- what is kept of each place of a page, by its number
module _ {X : Type 0} (d : X) (f : ℕ → X) (base : ℕ → Option ℕ) (page b : ℕ) (is : base page ≡ Some b) where
  at_cell : ((i : ℕ) → i < 512 → f (b + i) ≡ d) → (a : ℕ) → a / 4096 * 4096 ≡ page → (o : Option ℕ) → index_of base a ≡ o
      → at_index d f o ≡ d
  at_cell all a same None h = refl
  at_cell all a same (Some j) h = ap f (sym (cell_of base page b a j is same h)) ∙ all (a % 4096 / 8) (omega arith)

  at_places : ((i : ℕ) → i < 512 → f (b + i) ≡ d) → (a : ℕ) → a / 4096 * 4096 ≡ page → at_index d f (index_of base a) ≡ d
  at_places all a same = at_cell all a same (index_of base a) refl

  at_cells : page % 4096 ≡ 0 → ((a : ℕ) → a / 4096 * 4096 ≡ page → at_index d f (index_of base a) ≡ d)
      → (i : ℕ) → i < 512 → f (b + i) ≡ d
  at_cells aligned all i below =
      let same = page_at page i aligned below in
      let at : index_of base (page + 8 * i) ≡ Some (b + i) =
      index_from base (page + 8 * i) b (eighth_at page i aligned) (ap base same ∙ is)
      ∙ ap (λ (n : ℕ). Some (b + n)) (number_at page i aligned below) in
      ap (at_index d f) (sym at) ∙ all (page + 8 * i) same

module _ (map : PlaceMap) (page b : ℕ) (is : bases map.pages page ≡ Some b) where
  pub zero_values : ((i : ℕ) → i < 512 → value_in map.values.items (b + i) ≡ 0) → (a : ℕ) → a / 4096 * 4096 ≡ page → value_at map a ≡ 0
  unfolding value_at
  zero_values = at_places 0 (value_in map.values.items) (bases map.pages) page b is

  pub values_zero : page % 4096 ≡ 0 → ((a : ℕ) → a / 4096 * 4096 ≡ page → value_at map a ≡ 0) → (i : ℕ) → i < 512
      → value_in map.values.items (b + i) ≡ 0
  unfolding value_at
  values_zero = at_cells 0 (value_in map.values.items) (bases map.pages) page b is

  pub free_marks : ((i : ℕ) → i < 512 → entry_at map.broken (b + i) ≡ None) → (a : ℕ) → a / 4096 * 4096 ≡ page → marks_at map a ≡ None
  unfolding marks_at
  free_marks free a same = ap marks_of (at_places None (entry_at map.broken) (bases map.pages) page b is free a same)

  pub marks_free : page % 4096 ≡ 0 → ((a : ℕ) → a / 4096 * 4096 ≡ page → marks_at map a ≡ None) → (i : ℕ) → i < 512
      → entry_at map.broken (b + i) ≡ None
  unfolding marks_at
  marks_free aligned all =
      at_cells None (entry_at map.broken) (bases map.pages) page b is aligned (λ a same. no_entry (place_entry map a) (all a same))
