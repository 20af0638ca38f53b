-- The entries are those of the broken places.
use Rattle.bbm_place_map.proofs.Bases.{numbered_in}
use Rattle.bbm_place_map.proofs.Common.{◌≡◌, ℕ, ◌<◌, ◌%◌, true, List, length, Option, Some, None, is_some, refl, ap}
use Rattle.bbm_place_map.proofs.Common.{sym, bases, loses, IsOnce, ◌∙◌, slice_get, unwrap_or, option_map}
use Rattle.bbm_place_map.proofs.Common.{false≢true, same_Some, none-some, slice_get_within, entry_at, number_at}
use Rattle.bbm_place_map.proofs.Common.{marks_of, pends_of, no_pends, place_entry, index_of, at_index, entry_of, Entry}
use Rattle.bbm_place_map.proofs.Common.{PlaceMap, vec_len}
use Rattle.bbm_place_map.proofs.Seated.{seat_at}
use Rattle.bbm_place_map.proofs.Places.{index_once, found}
use Rattle.bbm_place_map.proofs.Seats.{by_entry, by_index, entry_lost, entry_there}

pub none_waits : (q : ℕ) (o : Option Entry) → marks_of o ≡ None → pends_of q o ≡ no_pends
none_waits q None h = refl
none_waits q (Some e) h = absurd (none-some e.marks (sym h))

module _ (map : PlaceMap) where
  abbrev pub items : List Entry
  items = map.broken.entries

  abbrev pub place_of : ℕ → ℕ
  place_of i = unwrap_or (option_map (λ (e : Entry). e.place) (slice_get items i)) 0

  pub place_is : (i : ℕ) (e : Entry) → slice_get items i ≡ Some e → place_of i ≡ e.place
  place_is i e h = ap (λ (o : Option Entry). unwrap_or (option_map (λ (x : Entry). x.place) o) 0) h

  -- the entry of a place is there
  pub entry_seat : (a : ℕ) (e : Entry) → place_entry map a ≡ Some e → (i : ℕ) × (slice_get items i ≡ Some e) × (e.place ≡ a)
  entry_seat a e =
      by_index (λ o. at_index None (entry_at map.broken) o ≡ Some e → (i : ℕ) × (slice_get items i ≡ Some e) × (e.place ≡ a))
      (index_of (bases map.pages) a) (λ h. absurd (none-some e h))
      (λ j at h.
      let s = seat_at map.broken j e h in (
        s.0,
        s.1,
        index_once (bases map.pages) (vec_len map.values) (numbered_in map) e.place a j
            (map.placed s.0 e s.1 ∙ ap (λ (n : ℕ). Some n) s.2) at,
      ))

  pub place_each : (a : ℕ) → is_some (marks_of (place_entry map a)) ≡ true → (i : ℕ) × (i < length items) × (place_of i ≡ a)
  place_each a =
      by_entry (λ o. is_some (marks_of o) ≡ true → (i : ℕ) × (i < length items) × (place_of i ≡ a)) (place_entry map a)
      (λ _ h. absurd (false≢true h))
      (λ e is _. let s = entry_seat a e is in (s.0, slice_get_within items s.0 e s.1, place_is s.0 e s.1 ∙ s.2))

  -- a broken place is an address of a descriptor
  pub place_aligned : (a : ℕ) → is_some (marks_of (place_entry map a)) ≡ true → a % 8 ≡ 0
  place_aligned a =
      by_entry (λ o. is_some (marks_of o) ≡ true → a % 8 ≡ 0) (place_entry map a) (λ _ h. absurd (false≢true h))
      (λ e is _.
      let s = entry_seat a e is in
      ap (λ (n : ℕ). n % 8) (sym s.2) ∙ (found (bases map.pages) e.place e.index (map.placed s.0 e s.1)).aligned)

  -- a place that lost a table
  pub lost_place : (new : ℕ → Option Entry) (j page : ℕ) → loses (marks_of (entry_at map.broken j)) (marks_of (new j)) ≡ Some page
      → (a : ℕ) × (loses (marks_of (place_entry map a)) (marks_of (at_index None new (index_of (bases map.pages) a))) ≡ Some page)
  lost_place new j page h =
      let e = entry_lost (entry_at map.broken j) (marks_of (new j)) page h in
      let s = seat_at map.broken j e.0 e.1 in
      let here : index_of (bases map.pages) e.0.place ≡ Some j = map.placed s.0 e.0 s.1 ∙ ap (λ (n : ℕ). Some n) s.2 in (
        e.0.place,
        ap (λ (o : Option ℕ). loses (marks_of (at_index None (entry_at map.broken) o)) (marks_of (at_index None new o))) here ∙ h,
      )

  -- where each place has one entry, an entry is that of its place
  module _ (once : IsOnce map.broken) where
    pub entry_here : (i : ℕ) (e : Entry) → slice_get items i ≡ Some e → place_entry map e.place ≡ Some e
    entry_here i e is = ap (at_index None (entry_at map.broken)) (map.placed i e is) ∙ ap (entry_of items) (once i e is) ∙ is

    pub place_broken : (i : ℕ) → i < length items → is_some (marks_of (place_entry map (place_of i))) ≡ true
    place_broken i within =
        let e = entry_there items i within in
        ap (λ (a : ℕ). is_some (marks_of (place_entry map a))) (place_is i e.0 e.1)
        ∙ ap (λ (o : Option Entry). is_some (marks_of o)) (entry_here i e.0 e.1)

    pub place_once : (i j : ℕ) → i < length items → j < length items → place_of i ≡ place_of j → i ≡ j
    place_once i j within within' same =
        let e = entry_there items i within in
        let f = entry_there items j within' in
        let is : e.0 ≡ f.0
        = same_Some e.0 f.0 (sym (entry_here i e.0 e.1) ∙ ap (place_entry map) (sym (place_is i e.0 e.1) ∙ same ∙ place_is j f.0 f.1)
        ∙ entry_here j f.0 f.1) in
        same_Some i j (sym (once i e.0 e.1) ∙ ap (λ (x : Entry). number_at map.broken x.index) is ∙ once j f.0 f.1)
