-- Cells and the entries that they name.
use Rattle.bbm_place_map.proofs.Common.{List, None, Option, Some, ap, refl, slice_get, sym, ℕ, ◌∙◌, ◌≡◌, same_Some}
use Rattle.bbm_place_map.proofs.Common.{option_map, Marks, slot_in, entry_in, entry_of, marks_of, Linked, Entry}
use Rattle.bbm_place_map.proofs.Common.{loses, none-some, length, slice_get_cases, arith, inl, inr, ◌<◌}

abbrev pub the_cell : Entry → ℕ
the_cell e = e.cell

-- what holds where an entry isn't there, and where it is
pub by_entry : (P : Option Entry → Type 0) (o : Option Entry) → (o ≡ None → P None) → ((e : Entry) → o ≡ Some e → P (Some e)) → P o
by_entry P None none some = none refl
by_entry P (Some e) none some = some e refl

pub by_index : (P : Option ℕ → Type 0) (o : Option ℕ) → P None → ((j : ℕ) → o ≡ Some j → P (Some j)) → P o
by_index P None none some = none
by_index P (Some j) none some = some j refl

pub marked : (o : Option Entry) (marks : Marks) → marks_of o ≡ Some marks → (e : Entry) × (o ≡ Some e) × (e.marks ≡ marks)
marked None marks is = cc
marked (Some e) marks is = (e, refl, same_Some e.marks marks is)

-- an entry that lost a table was there
pub entry_lost : (o : Option Entry) (new : Option Marks) (page : ℕ) → loses (marks_of o) new ≡ Some page → (e : Entry) × (o ≡ Some e)
entry_lost None None page h = absurd (none-some page h)
entry_lost None (Some m) page h = absurd (none-some page h)
entry_lost (Some e) new page h = (e, refl)

-- there is an entry with each number below that of all
pub entry_there : (entries : List Entry) (i : ℕ) → i < length entries → (e : Entry) × (slice_get entries i ≡ Some e)
entry_there entries i within =
    elim ((slice_get_cases entries i).1) [
      | inl is ↦ (is.0, is.2)
      | inr past ↦ absurd (omega (arith, past.0))
    ]

module _ {cells : List ℕ} {entries : List Entry} (linked : Linked cells entries) where
  seat_in : (j : ℕ) (s : Option ℕ) → slot_in cells j ≡ s → (e : Entry) → entry_of entries s ≡ Some e
      → (k : ℕ) × (slot_in cells j ≡ Some k) × (slice_get entries k ≡ Some e) × (e.cell ≡ j)
  seat_in j None at e was = cc
  seat_in j (Some k) at e was = (k, at, was, same_Some e.cell j (sym (ap (option_map the_cell) was) ∙ linked.forth j k at))

  -- the entry of a cell has that cell
  pub seat_of : (j : ℕ) (e : Entry) → entry_in cells entries j ≡ Some e
      → (k : ℕ) × (slot_in cells j ≡ Some k) × (slice_get entries k ≡ Some e) × (e.cell ≡ j)
  seat_of j e is = seat_in j (slot_in cells j) refl e is
