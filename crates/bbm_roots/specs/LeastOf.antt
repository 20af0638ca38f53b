-- The least of what passes a test.
-- Source: project's own choice.
use Rattle.std.specs.Prelude.{◌≡◌, ◌≤◌, ℕ, Bool, true, false, ◌||◌, Option, Some, None}
use Rattle.bbm_roots.specs.Readings.{tag_rank}
use Rattle.bbm_roots.specs.declared.reading.Reading.{Reading}

-- None where nothing passes, else one that passes and comes before each that does
module _ {X : Type 0} (before : X → X → Type 0) (test : X → Bool) where
  abbrev pub IsLeast : Option X → Type 0
  IsLeast None = (x : X) → test x ≡ false
  IsLeast (Some x) = (test x ≡ true) × ((y : X) → test y ≡ true → before x y)

-- what was the least of what passes any test is, with what is the least now, where what passes the further one is added
abbrev pub IsLeastWith : {X : Type 0} → (X → X → Type 0) → (X → Bool) → Option X → Option X → Type 0
IsLeastWith {X} before further old new =
    (test : X → Bool) → IsLeast before test old → IsLeast before (λ x. test x || further x) new

-- numbers in their order, and tags with roots by the root's first page and then by the tag, in the order `El2`, VMIDs,
-- ASIDs, `Ttbr1`
abbrev pub UpTo : ℕ → ℕ → Type 0
UpTo m n = m ≤ n

abbrev pub ReadingUpTo : Reading → Reading → Type 0
ReadingUpTo x y = (x.root ≤ y.root) × (x.root ≡ y.root → tag_rank x.tag ≤ tag_rank y.tag)
