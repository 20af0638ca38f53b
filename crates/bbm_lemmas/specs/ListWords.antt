-- Words on lists, on options, on flags and on tests, of no subject of their own.
-- Source: project's own choice.
use Rattle.std.specs.Option.{option_map_or}
use Rattle.std.specs.Prelude.{ℕ, zero, suc, min, Bool, true, false, not, ◌||◌, ◌==◌, List, [], ◌∷◌, Option, Some, None}
use Rattle.std.specs.Prelude.{option_and_then, unwrap_or, if◌then◌else◌}
-- whether some item of a list passes the test, and whether every item does
pub use Rattle.std.specs.List.{list_any as any, list_all as every}

-- what may be missing: with `do`, the first step that gives None ends the others
infixl 10 ◌>>=◌
abbrev pub ◌>>=◌ : {A B : Type 0} → Option A → (A → Option B) → Option B
o >>= f = option_and_then f o

-- the item where the test holds
abbrev pub if_so : {A : Type 0} → Bool → A → Option A
if_so false x = None
if_so true x = Some x

-- whether two flags are the same
abbrev pub same_flag : Bool → Bool → Bool
same_flag true b = b
same_flag false b = not b

-- whether there is a number and it is this one
abbrev pub is_that : Option ℕ → ℕ → Bool
is_that o n = option_map_or (λ m. m == n) o false

-- Search in a history: whether some item passes the test. The test has the item and what came before it.
abbrev pub some : {A : Type 0} → (A → List A → Bool) → List A → Bool
some test [] = false
some test (x ∷ older) = test x older || some test older

-- ---- numbers

-- whether the number is in the list
abbrev pub among : ℕ → List ℕ → Bool
among n ms = any (λ m. m == n) ms

-- the list with the number in front, unless it is there already
abbrev pub with_number : ℕ → List ℕ → List ℕ
with_number n ms = if among n ms then ms else n ∷ ms

-- the numbers that stand in the list more than once
abbrev pub repeated : List ℕ → List ℕ
repeated [] = []
repeated (n ∷ ms) = if among n ms then n ∷ repeated ms else repeated ms

-- the least number of the list, None where it is empty
abbrev pub least : List ℕ → Option ℕ
least [] = None
least (n ∷ ms) = Some (min n (unwrap_or (least ms) n))

-- the one number of a list, None where it has several or none
abbrev pub one_number : List ℕ → Option ℕ
one_number [] = None
one_number (n ∷ ms) = if every (λ m. m == n) ms then Some n else None

-- the numbers below n: with n the number of PEs of a log, the PEs
abbrev pub below : ℕ → List ℕ
below zero = []
below (suc n) = n ∷ below n

-- whether a test holds of some PE of a log with n PEs
abbrev pub some_pe : ℕ → (ℕ → Bool) → Bool
some_pe n test = any test (below n)
