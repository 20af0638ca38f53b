-- The entries of places, by the numbers of their values.
use Rattle.bbm_place_map.proofs.Common.{◌≡◌, ℕ, [], Option, Some, None, refl, ap, sym, ◌∙◌, slice_get, none-some}
use Rattle.bbm_place_map.proofs.Common.{same_Some, at_index, entry_at, entry_of, number_at, BrokenMap, Entry, List}
use Rattle.bbm_place_map.proofs.Numbers.{number_from}
use Rattle.bbm_place_map.proofs.Seats.{by_index}
use Rattle.bbm_place_map.specs.Entries.{number_by}

-- the entry of a place has its number
pub seat_at : (broken : BrokenMap) (j : ℕ) (e : Entry) → entry_at broken j ≡ Some e
    → (k : ℕ) × (slice_get broken.entries k ≡ Some e) × (e.index ≡ j)
seat_at broken j e =
    by_index (λ o. entry_of broken.entries o ≡ Some e → (k : ℕ) × (slice_get broken.entries k ≡ Some e) × (e.index ≡ j))
    (number_at broken j) (λ h. absurd (none-some e h))
    (λ k at h.
    let f = number_from broken.entries j k at in
    (k, h, ap (λ (x : Entry). x.index) (same_Some e f.0 (sym h ∙ f.1)) ∙ f.2))

-- the same entries are those of the same places
pub same_entries : (old new : BrokenMap) → new.entries ≡ old.entries → (j : ℕ) → entry_at new j ≡ entry_at old j
same_entries old new same j = ap (λ (es : List Entry). entry_of es (number_by es j)) same

-- where no place is broken no place has an entry
pub empty_place : (broken : BrokenMap) → broken.entries ≡ [] → (o : Option ℕ) → at_index None (entry_at broken) o ≡ None
empty_place broken none None = refl
empty_place broken none (Some j) = ap (λ (es : List Entry). entry_of es (number_by es j)) none
