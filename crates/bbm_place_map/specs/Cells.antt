-- Cells: the number of the entry of a broken place. And values of places.
-- Source: project's own choice.
use Rattle.std.specs.Prelude.{ℕ, zero, suc, Bool, Option, None, Some, is_some, List, slice_index_or, ◌+◌, ◌%◌, ◌/◌}
use Rattle.std.specs.Prelude.{◌&&◌, nat_le, nat_lt}
use Rattle.std.specs.Option.{option_map}

-- what a cell stands for: none where it is 0, else the number below it
abbrev pub number_of : ℕ → Option ℕ
number_of zero = None
number_of (suc k) = Some k

abbrev pub value_in : List ℕ → ℕ → ℕ
value_in values j = slice_index_or values j 0

abbrev pub slot_in : List ℕ → ℕ → Option ℕ
slot_in cells j = number_of (slice_index_or cells j 0)

abbrev pub is_listed : ℕ → Bool
is_listed cell = is_some (number_of cell)

-- whether a cell is among so many from the base on
abbrev pub in_page : ℕ → ℕ → ℕ → Bool
in_page base n j = nat_le base j && nat_lt j (base + n)

-- the cell of the value at j, by the numbers that tell of each page where its cells start; None where it has none
abbrev pub cell_by : List ℕ → ℕ → Option ℕ
cell_by parts j = option_map (λ start. start + j % 512) (slot_in parts (j / 512))
