-- The broken places, by the numbers of their values: the cells that these have, and their entries.
use Rattle.bbm_place_map.proofs.Common.{◌≡◌, ℕ, ◌+◌, ◌/◌, ◌%◌, ◌<◌, ◌≤◌, nat_eq, List, Option, Some, None, refl}
use Rattle.bbm_place_map.proofs.Common.{ap, sym, subst, ◌∙◌, arith, inl, inr, if◌then◌else◌, slice_get, vec_len}
use Rattle.bbm_place_map.proofs.Common.{none-some, option_map, cell_by, slot_in, entry_of, position, Entry}
use Rattle.bbm_place_map.proofs.Common.{Entries, IsSound, Numbered, StillSound, at_index, entry_of_cell}
use Rattle.bbm_place_map.proofs.Common.{put_away, either, ◌⊎◌, WasSeated, KeepsRoom, SameSize, length, ◌*◌}
use Rattle.bbm_place_map.proofs.Common.{Marks, MarksCell, marks_of, pends_in, pends_of}
use Rattle.bbm_place_map.proofs.Edits.{fewer_listed}
use Rattle.bbm_place_map.proofs.Growing.{numbered_more}
use Rattle.bbm_place_map.proofs.Linking.{marks_put, pends_put}
use Rattle.bbm_place_map.proofs.Numbers.{number_as}
use Rattle.bbm_place_map.proofs.Positions.{found, free_cell, positions_changed, seats_by, still_seated}
use Rattle.bbm_place_map.proofs.Reaching.{cell_once, cell_start, put_through}
use Rattle.bbm_place_map.proofs.Seats.{by_index, the_cell}
use Rattle.bbm_place_map.specs.Entries.{number_by}

-- the entry of a value's place, by its number
abbrev pub entry_by : List Entry → ℕ → Option Entry
entry_by items j = entry_of items (number_by items j)

-- and by its cell
abbrev pub kept_in : List ℕ → Entries → ℕ → Option Entry
kept_in parts entries j = at_index None (entry_of_cell entries) (cell_by parts j)

module _ {parts : List ℕ} {entries : Entries} (sound : IsSound parts entries) where
  abbrev number_in : ℕ → Option ℕ
  number_in j = at_index None (slot_in entries.cells.items) (cell_by parts j)

  number_back : (k : ℕ) (e : Entry) → slice_get entries.list.items k ≡ Some e → number_in e.index ≡ Some k
  number_back k e is =
      ap (at_index None (slot_in entries.cells.items)) (sound.seated k e is)
      ∙ entries.linked.back e.cell k (ap (option_map the_cell) is)

  number_there : (j k : ℕ) → number_in j ≡ Some k
      → (e : Entry) × (slice_get entries.list.items k ≡ Some e) × (e.index ≡ j)
  number_there j k =
      by_index (λ o. at_index None (slot_in entries.cells.items) o ≡ Some k
      → (e : Entry) × (slice_get entries.list.items k ≡ Some e) × (e.index ≡ j))
      (cell_by parts j) (λ h. absurd (none-some k h))
      (λ c at h.
      let linked = entries.linked.forth c k h in
      let e = found entries.list.items k c linked in
      let here : cell_by parts e.0.index ≡ Some c
      = sound.seated k e.0 e.1 ∙ sym (ap (option_map the_cell) e.1) ∙ linked in
      (e.0, e.1, cell_once parts (vec_len entries.cells) sound.numbered e.0.index j c here at))

  -- the number of the entry of a place is in its cell
  number_is : (j : ℕ) → number_by entries.list.items j ≡ number_in j
  number_is j =
      number_as entries.list.items j (number_in j) (number_there j)
      (λ k e is same. ap number_in (sym same) ∙ number_back k e is)

  pub entry_is : (j : ℕ) → entry_by entries.list.items j ≡ kept_in parts entries j
  entry_is j =
      ap (entry_of entries.list.items) (number_is j)
      ∙ by_index (λ o. entry_of entries.list.items (at_index None (slot_in entries.cells.items) o)
      ≡ at_index None (entry_of_cell entries) o) (cell_by parts j) refl (λ c at. refl)

  -- each place has one entry
  pub once : (k : ℕ) (e : Entry) → slice_get entries.list.items k ≡ Some e
      → number_by entries.list.items e.index ≡ Some k
  once k e is = number_is e.index ∙ number_back k e is

  -- a place has the number, and the entry, of its cell
  pub number_at_cell : (j c : ℕ) → cell_by parts j ≡ Some c → number_by entries.list.items j ≡ slot_in entries.cells.items c
  number_at_cell j c at = number_is j ∙ ap (at_index None (slot_in entries.cells.items)) at

  pub entry_at_cell : (j c : ℕ) → cell_by parts j ≡ Some c → entry_by entries.list.items j ≡ entry_of_cell entries c
  entry_at_cell j c at = entry_is j ∙ ap (at_index None (entry_of_cell entries)) at

  -- and neither without one
  pub number_without_cell : (j : ℕ) → cell_by parts j ≡ None → number_by entries.list.items j ≡ None
  number_without_cell j none = number_is j ∙ ap (at_index None (slot_in entries.cells.items)) none

  pub entry_without_cell : (j : ℕ) → cell_by parts j ≡ None → entry_by entries.list.items j ≡ None
  entry_without_cell j none = entry_is j ∙ ap (at_index None (entry_of_cell entries)) none

  -- where a page has no cells there is room for them
  pub cells_fewer : (page : ℕ) → page < length parts → slot_in parts page ≡ None
      → vec_len entries.cells + 512 ≤ 512 * length parts
  cells_fewer page within free = omega (arith, sound.some, fewer_listed parts page within free)

-- what becomes of the entry of a place's cell becomes of that of its number
pub by_cells : {parts : List ℕ} {old new : Entries} → IsSound parts old → IsSound parts new
    → (R : Option Entry → Option Entry → Type 0) (j : ℕ) → R (kept_in parts old j) (kept_in parts new j)
    → R (entry_by old.list.items j) (entry_by new.list.items j)
by_cells {parts} {old} {new} sound sound' R j h =
    subst (λ o. R o (entry_by new.list.items j)) (sym (entry_is sound j))
    (subst (R (kept_in parts old j)) (sym (entry_is sound' j)) h)

-- the cells go on to be those of their numbers
sound_still : {parts : List ℕ} {old new : Entries} → KeepsRoom old new
    → ((k : ℕ) (e : Entry) → slice_get new.list.items k ≡ Some e → cell_by parts e.index ≡ Some e.cell)
    → IsSound parts old → IsSound parts new
sound_still {parts} room seated sound =
    let N : ℕ → Type 0 = Numbered (slot_in parts) in
    record {
      numbered = subst N (sym room.len) sound.numbered;
      some = omega (arith, sound.some, room.len);
      seated = seated;
      space = omega (arith, sound.space, room.space);
      room = omega (arith, sound.room, room.room);
      few = sound.few;
    }

pub sound_seated : {parts : List ℕ} {old new : Entries} → StillSound old new → IsSound parts old → IsSound parts new
sound_seated {parts} {old} {new} still sound =
    sound_still still.room
    (seats_by (λ p. cell_by parts p.1 ≡ Some p.2) old.list.items new.list.items still.seats sound.seated) sound

pub sound_changed : {parts : List ℕ} (old new : Entries) (k : ℕ) (e f : Entry) → slice_get old.list.items k ≡ Some e
    → position f ≡ position e
    → ((i : ℕ) → slice_get new.list.items i ≡ (if nat_eq i k then Some f else slice_get old.list.items i))
    → new.cells ≡ old.cells → SameSize old.list new.list → IsSound parts old → IsSound parts new
sound_changed old new k e f was seated gets same size =
    sound_seated (still_seated old new same
    (positions_changed old.cells.items old.list.items new.list.items e f e.cell k old.linked
    (old.linked.back e.cell k (ap (option_map the_cell) was)) was seated gets) size)

-- a page gets its cells, behind all others
module _ {parts : List ℕ} (parts' : List ℕ) {entries : Entries} (sound : IsSound parts entries) (page start : ℕ)
    (last : start ≡ vec_len entries.cells) (free : slot_in parts page ≡ None)
    (slots : (i : ℕ) → slot_in parts' i ≡ (if nat_eq i page then Some start else slot_in parts i)) where
  pub part_seated : (k : ℕ) (e : Entry) → slice_get entries.list.items k ≡ Some e
      → cell_by parts' e.index ≡ Some e.cell
  part_seated k e is =
      let at = sound.seated k e is in
      let s = cell_start parts e.index e.cell at in
      ap (option_map (λ s. s + e.index % 512)) (put_away _ _ slots (e.index / 512)
      (λ here. none-some s.0 (sym free ∙ ap (slot_in parts) (sym here) ∙ s.1))) ∙ at

  pub part_numbered : (count : ℕ) → start + 512 ≤ count → Numbered (slot_in parts') count
  part_numbered =
      let N : ℕ → Type 0 = Numbered (slot_in parts) in
      numbered_more (record { updates = slots; free = free; numbered = subst N (sym last) sound.numbered })

-- the place of a cell is broken
module _ {parts : List ℕ} {old new : Entries} {j place cell : ℕ} {by : Marks} (sound : IsSound parts old)
    (at : cell_by parts j ≡ Some cell) (e : MarksCell cell j place by old new) where
  pub sound_marked : IsSound parts new
  sound_marked =
      let P : ℕ × ℕ × ℕ → Type 0 = λ p. cell_by parts p.1 ≡ Some p.2 in
      sound_still e.room
      (λ k x h.
      elim (e.seats k x h) [
        | inl was ↦ subst P (sym was.3) (sound.seated was.0 was.1 was.2)
        | inr now ↦ subst P (sym now) at
      ]) sound

  pub broken_seats : (k : ℕ) (x : Entry) → slice_get new.list.items k ≡ Some x
      → WasSeated old.list.items x ⊎ ((x.place ≡ place) × (x.index ≡ j))
  broken_seats k x h =
      either (e.seats k x h) (λ was. was)
      (λ now. (ap (λ (p : ℕ × ℕ × ℕ). p.0) now, ap (λ (p : ℕ × ℕ × ℕ). p.1) now))

  pub broken_entry : (f : Entry) × (f.marks ≡ by)
      × ((q : ℕ) → pends_in f.pends.items q ≡ pends_of q (entry_by old.list.items j))
      × ((i : ℕ) → entry_by new.list.items i ≡ (if nat_eq i j then Some f else entry_by old.list.items i))
  broken_entry =
      let f = e.entry in (
        f.0,
        f.1,
        λ q. f.2 q ∙ ap (pends_of q) (sym (entry_at_cell sound j cell at)),
        λ i. by_cells sound sound_marked (λ o p. p ≡ (if nat_eq i j then Some f.0 else o)) i
            (put_through (cell_by parts) None (Some f.0) (entry_of_cell old) (entry_of_cell new) j cell at
            (λ y h. cell_once parts (vec_len old.cells) sound.numbered y j cell h at) f.3 i),
      )

  pub broken_marks : (i : ℕ) → marks_of (entry_of_cell new i)
      ≡ (if nat_eq i cell then Some by else marks_of (entry_of_cell old i))
  broken_marks i =
      marks_put (entry_of_cell old) (entry_of_cell new) e.entry.0 cell e.entry.3 i
      ∙ ap (λ (m : Marks). if nat_eq i cell then Some m else marks_of (entry_of_cell old i)) e.entry.1

  pub broken_pends : (q i : ℕ) → pends_of q (entry_of_cell new i) ≡ pends_of q (entry_of_cell old i)
  broken_pends q = pends_put (entry_of_cell old) (entry_of_cell new) e.entry.0 cell e.entry.3 q (e.entry.2 q)

-- a page of which no place is broken
module _ {parts : List ℕ} {entries : Entries} (sound : IsSound parts entries) (b : ℕ) (whole : b % 512 ≡ 0) where
  -- the cells of a page
  cells_there : (i : ℕ) → i < 512 → cell_by parts (b + i) ≡ option_map (λ s. s + i) (slot_in parts (b / 512))
  cells_there i below =
      let page : (b + i) / 512 ≡ b / 512 = omega (arith, whole, below) in
      let rest : (b + i) % 512 ≡ i = omega (arith, whole, below) in
      ap (option_map (λ n. n + (b + i) % 512)) (ap (slot_in parts) page)
      ∙ ap (λ (r : ℕ). option_map (λ n. n + r) (slot_in parts (b / 512))) rest

  pub unparted : slot_in parts (b / 512) ≡ None → (i : ℕ) → i < 512 → entry_by entries.list.items (b + i) ≡ None
  unparted at i below = entry_without_cell sound (b + i) (cells_there i below ∙ ap (option_map (λ s. s + i)) at)

  module _ (s : ℕ) (at : slot_in parts (b / 512) ≡ Some s) where
    here : (i : ℕ) → i < 512 → entry_by entries.list.items (b + i) ≡ entry_of_cell entries (s + i)
    here i below = entry_at_cell sound (b + i) (s + i) (cells_there i below ∙ ap (option_map (λ s. s + i)) at)

    pub free_page : ((i : ℕ) → i < 512 → slot_in entries.cells.items (s + i) ≡ None) → (i : ℕ) → i < 512
        → entry_by entries.list.items (b + i) ≡ None
    free_page free i below = here i below ∙ ap (entry_of entries.list.items) (free i below)

    pub page_free : ((i : ℕ) → i < 512 → entry_by entries.list.items (b + i) ≡ None) → (i : ℕ) → i < 512
        → slot_in entries.cells.items (s + i) ≡ None
    page_free none i below =
        free_cell entries.cells.items entries.list.items entries.linked (s + i)
        (ap marks_of (sym (here i below) ∙ none i below))
