-- Entries that change, each in its place.
use Rattle.bbm_place_map.proofs.Common.{◌≡◌, ◌≢◌, ℕ, nat_eq, List, length, Option, Some, None, refl, ap, sym, ◌∙◌, inl}
use Rattle.bbm_place_map.proofs.Common.{inr, if◌then◌else◌, slice_get, Vec, Global, option_map, cases_eq, same_Some}
use Rattle.bbm_place_map.proofs.Common.{none-some, slot_in, position, position_at, cell_at, entry_of, entry_in, Linked}
use Rattle.bbm_place_map.proofs.Common.{AreSeated, KeepsRoom, StillSound, Entries, Entry, SameSize, put_here, subst}
use Rattle.bbm_place_map.proofs.Common.{put_away, split_at, vec_len, vec_capacity, ◌<◌}
use Rattle.bbm_place_map.proofs.Common.{get_or, set, length-set, marks_in, marks_of}
use Rattle.bbm_place_map.proofs.Leaving.{entry_read}
use Rattle.bbm_place_map.proofs.Lists.{set_get}

position_cell : (o : Option Entry) → option_map (λ (e : Entry). e.cell) o ≡ option_map (λ (p : ℕ × ℕ × ℕ). p.2) (option_map position o)
position_cell None = refl
position_cell (Some e) = refl

pub position_place : (o : Option Entry) → option_map (λ (e : Entry). e.place) o ≡ option_map (λ (p : ℕ × ℕ × ℕ). p.0) (option_map position o)
position_place None = refl
position_place (Some e) = refl

pub position_of : (o : Option Entry) (e : Entry) → option_map position o ≡ Some (position e) → (f : Entry) × (o ≡ Some f) × (position e ≡ position f)
position_of None e h = cc
position_of (Some f) e h = (f, refl, sym (same_Some (position f) (position e) h))

module _ (entries entries' : List Entry) (positions : (m : ℕ) → position_at entries' m ≡ position_at entries m) where
  pub cells_same : (m : ℕ) → cell_at entries' m ≡ cell_at entries m
  cells_same m =
      position_cell (slice_get entries' m) ∙ ap (option_map (λ (p : ℕ × ℕ × ℕ). p.2)) (positions m) ∙ sym (position_cell (slice_get entries m))

  pub linked_seated : (cells : List ℕ) → length entries' ≡ length entries → Linked cells entries → Linked cells entries'
  linked_seated cells len linked = record {
    forth = λ j k h. cells_same k ∙ linked.forth j k h;
    back = λ j k h. linked.back j k (sym (cells_same k) ∙ h);
    count = linked.count ∙ sym len;
  }

  pub seats_kept : AreSeated entries entries'
  seats_kept k e h =
      let old = position_of (slice_get entries k) e (sym (positions k) ∙ ap (option_map position) h) in (k, old.0, old.1, old.2)

-- one entry changes
module _ (cells : List ℕ) (entries entries' : List Entry) (e e' : Entry) (j k : ℕ) (linked : Linked cells entries)
    (here : slot_in cells j ≡ Some k) (was : slice_get entries k ≡ Some e) (seated : position e' ≡ position e)
    (gets : (i : ℕ) → slice_get entries' i ≡ (if nat_eq i k then Some e' else slice_get entries i)) where
  pub positions_changed : (m : ℕ) → position_at entries' m ≡ position_at entries m
  positions_changed m =
      elim (cases_eq m k) [
        | inl same ↦
            ap (option_map position) (put_here _ _ gets m same) ∙ ap (λ (p : ℕ × ℕ × ℕ). Some p) seated
            ∙ sym (ap (option_map position) (ap (slice_get entries) same ∙ was))
        | inr other ↦ ap (option_map position) (put_away _ _ gets m other)
      ]

  kept : (i : ℕ) → i ≢ j → (o : Option ℕ) → slot_in cells i ≡ o → entry_of entries' o ≡ entry_of entries o
  kept i other None h = refl
  kept i other (Some m) h =
      put_away _ _ gets m (λ same. other (same_Some i j
      (sym (linked.forth i m h) ∙ ap (cell_at entries) same ∙ linked.forth j k here)))

  pub entries_changed : (i : ℕ) → entry_in cells entries' i ≡ (if nat_eq i j then Some e' else entry_in cells entries i)
  entries_changed i =
      split_at i j (λ same. ap (entry_of entries') (ap (slot_in cells) same ∙ here) ∙ put_here _ _ gets k refl)
      (λ other. kept i other (slot_in cells i) refl)

found_in : (o : Option Entry) (j : ℕ) → option_map (λ (e : Entry). e.cell) o ≡ Some j → (e : Entry) × (o ≡ Some e)
found_in None j h = absurd (none-some j h)
found_in (Some e) j h = (e, refl)

pub found : (entries : List Entry) (k j : ℕ) → cell_at entries k ≡ Some j → (e : Entry) × (slice_get entries k ≡ Some e)
found entries k j h = found_in (slice_get entries k) j h

-- a cell has no entry where its place isn't broken
module _ (cells : List ℕ) (entries : List Entry) (linked : Linked cells entries) where
  unlisted : (j : ℕ) (o : Option ℕ) → slot_in cells j ≡ o → marks_of (entry_of entries o) ≡ None → o ≡ None
  unlisted j None is h = refl
  unlisted j (Some k) is h =
      let e = found entries k j (linked.forth j k is) in
      absurd (none-some e.0.marks (sym h ∙ ap marks_of e.1))

  pub free_cell : (j : ℕ) → marks_in cells entries j ≡ None → slot_in cells j ≡ None
  free_cell j none = unlisted j (slot_in cells j) refl none

-- an entry is put in the place of one of its cell
pub linked_set : (cells : List ℕ) (entries : List Entry) (k : ℕ) (x f : Entry) → Linked cells entries → k < length entries
    → x ≡ get_or entries k x → position f ≡ position x → Linked cells (set entries k f)
linked_set cells entries k x f linked within is same =
    let was = entry_read entries k x within is in
    linked_seated entries (set entries k f)
    (positions_changed cells entries (set entries k f) x f x.cell k linked (linked.back x.cell k (ap (option_map (λ (e : Entry). e.cell)) was)) was same
    (λ i. set_get entries k f i within)) cells (length-set entries k f) linked

-- as much room, and entries where they were
pub room_same : (old : Entries) → KeepsRoom old old
room_same old = record { len = refl; space = refl; room = refl }

pub seats_same : (entries : List Entry) → AreSeated entries entries
seats_same entries k e h = (k, e, h, refl)

pub seats_then : (old mid new : List Entry) → AreSeated old mid → AreSeated mid new → AreSeated old new
seats_then old mid new a b k e h =
    let w = b k e h in
    let v = a w.0 w.1 w.2 in
    (v.0, v.1, v.2, w.3 ∙ v.3)

-- what holds of each place with its numbers goes on to hold
pub seats_by : (P : ℕ × ℕ × ℕ → Type 0) (old new : List Entry) → AreSeated old new
    → ((k : ℕ) (e : Entry) → slice_get old k ≡ Some e → P (position e)) → (k : ℕ) (e : Entry) → slice_get new k ≡ Some e → P (position e)
seats_by P old new seats holds k e h = let w = seats k e h in subst P (sym w.3) (holds w.0 w.1 w.2)

pub still_same : (old : Entries) → StillSound old old
still_same old = record { room = room_same old; seats = seats_same old.list.items }

pub still_more : {old mid new : Entries} → StillSound old mid → StillSound mid new → StillSound old new
still_more {old} {mid} {new} a b = record {
  room = record { len = b.room.len ∙ a.room.len; space = b.room.space ∙ a.room.space; room = b.room.room ∙ a.room.room };
  seats = seats_then old.list.items mid.list.items new.list.items a.seats b.seats;
}

pub still_seated : (old new : Entries) → new.cells ≡ old.cells → ((m : ℕ) → position_at new.list.items m ≡ position_at old.list.items m)
    → SameSize old.list new.list → StillSound old new
still_seated old new same positions size = record {
  room = record { len = ap (λ (v : Vec ℕ Global). vec_len v) same; space = ap (λ (v : Vec ℕ Global). vec_capacity v) same; room = size.room };
  seats = seats_kept old.list.items new.list.items positions;
}
