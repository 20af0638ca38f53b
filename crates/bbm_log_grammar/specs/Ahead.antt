-- A line that lies whole at the front of some bytes, and what 16 bytes count for as hex digits.
use Rattle.std.specs.Prelude.{◌≡◌, ℕ, ◌+◌, ◌*◌, ◌/◌, ◌%◌, ◌≤◌, nat_lt, List, [], ◌∷◌, ◌++◌, length, take, ◌==◌}
use Rattle.std.specs.Prelude.{if◌then◌else◌, Bool, true, false, Option, Some, None, Ok}
use Rattle.std.specs.Int.{w64, trailing_zeros}
use Rattle.bbm_events.specs.declared.event.Item.{Item}
use Rattle.bbm_events.specs.declared.event.Event.{Event}
use Rattle.bbm_events.specs.declared.event.Event.TheVariants as events
use Rattle.bbm_events.specs.Fits.{item_fits, fits_heading}
use Rattle.bbm_events.specs.Heading.{Heading}
use Rattle.bbm_events.specs.Lines.{item_of, event_fields}
use Rattle.bbm_events.specs.Spelling.{is_plain, joined}

-- The first so many bytes are a line that is read as this item, and a newline follows.
pub record StandsFirst (heading : Heading) (item : Item) (count : ℕ) (bytes : List ℕ) : Type 0 where
  pub is : item_of heading (take count bytes) ≡ Ok item
  pub fits : item_fits heading item ≡ true
  pub newline : take (count + 1) bytes ≡ take count bytes ++ 10 ∷ []
  pub no_newline : is_plain (take count bytes) ≡ true
  pub short : count ≤ 200
  pub within : count + 1 ≤ length bytes

-- the number of the lowest bit of a mask that is set, or of its lanes where none is
abbrev pub first_set : ℕ → ℕ → ℕ
first_set mask lanes = if mask == 0 then lanes else trailing_zeros w64 mask

-- what a byte counts for as a hex digit; of one that is none, some four bits
abbrev pub lane_worth : ℕ → ℕ
lane_worth byte =
    let digit = (byte + 208) % 256 in
    let letter = (byte + 169) % 256 in
    (if nat_lt digit letter then digit else letter) % 16

-- the number with all these bytes more
abbrev pub worth_after : ℕ → List ℕ → ℕ
worth_after n [] = n
worth_after n (byte ∷ bytes) = worth_after (n * 16 + lane_worth byte) bytes

-- what follows the last field of an event line, for its label
abbrev pub label_part : Option (List ℕ) → List ℕ
label_part None = []
label_part (Some label) = 32 ∷ 64 ∷ label

-- These bytes begin with the fields of an event of this kind, which fits the heading, and those stand behind it.
abbrev pub Begins : Heading → (Event → Bool) → List ℕ → Event → List ℕ → Type 0
Begins heading has bytes event rest =
    (bytes ≡ joined (event_fields event) ++ rest) × ((fits_heading heading event ≡ true) × (has event ≡ true))

-- the four bytes that a number stands for, the lowest first
abbrev pub four_bytes : ℕ → List ℕ
four_bytes n = n % 256 ∷ n / 256 % 256 ∷ n / 65536 % 256 ∷ n / 16777216 % 256 ∷ []

-- the kinds of events

abbrev pub is_write : Event → Bool
is_write (events.Write pe place value) = true
is_write _ = false

abbrev pub is_dsb : Event → Bool
is_dsb (events.Dsb pe dsb) = true
is_dsb _ = false

abbrev pub is_tlbi : Event → Bool
is_tlbi (events.Tlbi pe op xt) = true
is_tlbi _ = false

abbrev pub is_isb : Event → Bool
is_isb (events.Isb pe) = true
is_isb _ = false

abbrev pub is_any : Event → Bool
is_any event = true
