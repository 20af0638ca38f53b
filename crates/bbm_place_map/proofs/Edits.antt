-- Numbers of entries within the cells.
use Rattle.bbm_place_map.proofs.Common.{◌≡◌, ℕ, ◌+◌, ◌<◌, ◌≤◌, List, length, Bool, Option, Some, None, is_some, refl}
use Rattle.bbm_place_map.proofs.Common.{ap, sym, ◌∙◌, arith, inl, inr, count_by, set, get_or, cases_lt, length-set}
use Rattle.bbm_place_map.proofs.Common.{get_or_past, count_by-le-length, none-some, slice_get_read, value_in, slot_in}
use Rattle.bbm_place_map.proofs.Common.{is_listed, number_of, Linked, Entry, cond}
use Rattle.bbm_place_map.proofs.Common.{option_map}
use Rattle.std.proofs.lemmas.List.Sums.{sum_by-set}
use Rattle.std.proofs.lemmas.Option.{get_or_from_slice_get}

pub slot_within : (cells : List ℕ) (j k : ℕ) → slot_in cells j ≡ Some k → j < length cells
slot_within cells j k h =
    elim (cases_lt j (length cells)) [
      | inl lt ↦ lt
      | inr ge ↦ absurd (none-some k (sym (ap number_of (get_or_past cells j 0 ge)) ∙ h))
    ]

-- a test as a number
abbrev pub one_if : Bool → ℕ
one_if b = cond b 1 0

-- where a cell has no entry, there are fewer entries than cells
pub fewer_listed : (cells : List ℕ) (j : ℕ) → j < length cells → slot_in cells j ≡ None → count_by is_listed cells < length cells
fewer_listed cells j within free =
    let one : count_by is_listed (set cells j 1) + one_if (is_some (slot_in cells j)) ≡ count_by is_listed cells + 1
    = sum_by-set (λ (x : ℕ). one_if (is_some (number_of x))) cells j 1 0 within in
    let none : one_if (is_some (slot_in cells j)) ≡ 0 = ap (λ (o : Option ℕ). one_if (is_some o)) free in
    let most : count_by is_listed (set cells j 1) ≤ length (set cells j 1) = count_by-le-length is_listed (set cells j 1) in
    let long : length (set cells j 1) ≡ length cells = length-set cells j 1 in
    omega arith

pub room_for : (cells : List ℕ) (entries : List Entry) (j : ℕ) → Linked cells entries → j < length cells → slot_in cells j ≡ None
    → length entries < length cells
room_for cells entries j linked within free =
    let fewer : count_by is_listed cells < length cells = fewer_listed cells j within free in
    let as_many : count_by is_listed cells ≡ length entries = linked.count in
    omega arith

-- no more entries than cells
pub entries_few : (cells : List ℕ) (entries : List Entry) → Linked cells entries → length entries ≤ length cells
entries_few cells entries linked =
    let most : count_by is_listed cells ≤ length cells = count_by-le-length is_listed cells in
    let as_many : count_by is_listed cells ≡ length entries = linked.count in
    omega arith

-- a value that was read
pub value_read : (values : List ℕ) (j x : ℕ) → j < length values → x ≡ get_or values j x → value_in values j ≡ x
value_read values j x within is = get_or_from_slice_get values j x 0 (slice_get_read values (length values) j x refl within is)

pub map_none : (f : ℕ → ℕ) (o : Option ℕ) → option_map f o ≡ None → o ≡ None
map_none f None h = refl
map_none f (Some x) h = absurd (none-some (f x) (sym h))
