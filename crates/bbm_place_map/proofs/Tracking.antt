-- A page that is tracked anew, once there is room for it.
use Rattle.bbm_place_map.proofs.Common.{◌≡◌, ◌+◌, ◌*◌, ◌/◌, ◌≤◌, ◌++◌, ◌∷◌, [], ℕ, Bool, false, List, length, Some}
use Rattle.bbm_place_map.proofs.Common.{None, ap, sym, subst, ◌∙◌, arith, vec_len, is_some, if◌then◌else◌, get_or_past}
use Rattle.bbm_place_map.proofs.Common.{refl, bases, value_in, number_in, at_index, index_of, entry_at, place_entry}
use Rattle.bbm_place_map.proofs.Common.{KeepsItems, Numbered, Placed, BrokenMap, PlaceMap}
use Rattle.std.proofs.Common.{length-append}
use Rattle.bbm_place_map.proofs.Bases.{base_none, bases_more, numbered_in}
use Rattle.bbm_place_map.proofs.Growing.{flip, not_some, placed_more, points_more, Grown}
use Rattle.bbm_place_map.proofs.Places.{at_same, found}
use Rattle.bbm_place_map.proofs.Seated.{same_entries, seat_at}
use Rattle.bbm_place_map.proofs.Seats.{by_entry}
use Rattle.bbm_place_map.specs.Map.{value_at}

-- no place is broken past the pages
entry_past : (map : PlaceMap) (j : ℕ) → vec_len map.values ≤ j → entry_at map.broken j ≡ None
entry_past map j past =
    by_entry (λ o. o ≡ None) (entry_at map.broken j) (λ _. refl)
    (λ e is.
    let s = seat_at map.broken j e is in
    let f = found (bases map.pages) e.place e.index (map.placed s.0 e s.1) in
    absurd (omega (arith, past, s.2, f.sum, (numbered_in map).within (e.place / 4096 * 4096) f.start f.is)))

module _ {old map : PlaceMap} (kept : KeepsItems old map) (page : ℕ) (untracked : is_some (number_in old.pages page) ≡ false) where
  pub still_untracked : number_in map.pages page ≡ None
  still_untracked = ap (λ (ps : List ℕ). number_in ps page) kept.pages ∙ not_some (number_in old.pages page) untracked

  module _ {new : List ℕ} (added : new ≡ map.pages ++ page ∷ []) where
    abbrev base : ℕ
    base = 512 * length map.pages

    grown : Grown (bases map.pages) (bases new) page base
    grown = record {
      updates = λ p. ap (λ (ps : List ℕ). bases ps p) added ∙ bases_more map.pages page p still_untracked
          ∙ ap (λ (t : Bool). if t then Some base else bases map.pages p) (flip page page p refl);
      free = base_none map.pages page still_untracked;
      numbered = let P : ℕ → Type 0 = Numbered (bases map.pages) in subst P (sym map.counted) (numbered_in map);
    }

    pub pages_then : length new ≡ length map.pages + 1
    pages_then = ap length added ∙ length-append map.pages (page ∷ [])

    pub placed_then : Placed (bases new) map.broken.entries
    placed_then = placed_more grown map.broken.entries map.placed

    pub values_then : (values : List ℕ) → ((i : ℕ) → value_in values i ≡ value_in map.values.items i) → (a : ℕ)
        → at_index 0 (value_in values) (index_of (bases new) a) ≡ value_at old a
    unfolding value_at
    values_then values stay a =
        points_more grown 0 (value_in map.values.items) (value_in values) stay
        (λ i past. get_or_past map.values.items i 0 (omega (arith, past, map.counted))) a
        ∙ ap (λ (ps : List ℕ). at_index 0 (value_in map.values.items) (index_of (bases ps) a)) kept.pages
        ∙ ap (λ (xs : List ℕ). at_index 0 (value_in xs) (index_of (bases old.pages) a)) kept.values

    pub entry_then : (broken : BrokenMap) → broken.entries ≡ map.broken.entries → (a : ℕ)
        → at_index None (entry_at broken) (index_of (bases new) a) ≡ place_entry old a
    entry_then broken same a =
        points_more grown None (entry_at map.broken) (entry_at broken) (same_entries map.broken broken same)
        (λ i past. entry_past map i (omega (arith, past, map.counted))) a
        ∙ ap (λ (ps : List ℕ). at_index None (entry_at map.broken) (index_of (bases ps) a)) kept.pages
        ∙ at_same None (entry_at old.broken) (entry_at map.broken) (same_entries old.broken map.broken kept.broken.entries)
        (index_of (bases old.pages) a)
