-- What is left to do for DSBs: the lists of the cells that they visit.
-- Source: project's own choice.
use Rattle.std.specs.Prelude.{◌≡◌, ◌≤◌, ◌<◌, ◌⊎◌, ℕ, Bool, true, false, Option, Some, None, List, [], ◌∷◌, nat_eq, not}
use Rattle.std.specs.Prelude.{◌||◌}
use Rattle.std.specs.Prelude.{Contains, IfSome, drop, slice_get}
use Rattle.bbm_lemmas.specs.EveryPe.{every_pe}
use Rattle.bbm_regimes.specs.PeMask.{pe_in}
use Rattle.bbm_regimes.specs.declared.pe.PeMask.{PeMask}
use Rattle.bbm_tlbi_scope.specs.declared.entry.Cover.{Cover}
use Rattle.bbm_entry_state.specs.Points.{waits}
use Rattle.bbm_entry_state.specs.declared.marks.Marks.{Marks}
use Rattle.bbm_entry_state.specs.declared.pending.Pends.{Pends}
use Rattle.bbm_place_map.specs.Entries.{pends_in}
use Rattle.bbm_place_map.specs.Parts.{marks_in, pends_for}
use Rattle.bbm_place_map.specs.declared.entry.Entry.{Entry}
use Rattle.bbm_place_map.specs.declared.orders.Effect.{Effect}
use Rattle.bbm_place_map.specs.declared.orders.Effect.TheVariants.{Publish, Complete}
use Rattle.bbm_place_map.specs.declared.work.Work.{Work}
use Rattle.bbm_place_map.specs.declared.work.WorkList.{WorkList}

-- the cells that a DSB visits: all, or where it reaches its PE alone those behind the ones at which it has nothing to do
abbrev pub part : Bool → WorkList → List ℕ
part true list = list.cells.items
part false list = drop list.local_done list.cells.items

-- a list has the cell among these, or has given up
abbrev pub Holds : WorkList → Bool → ℕ → Type 0
Holds list wide j = (list.given_up ≡ true) ⊎ Contains (part wide list) j

-- so does the list of a PE, if it has one
abbrev pub HoldsFor : List WorkList → ℕ → Bool → ℕ → Type 0
HoldsFor lists q wide j = (list : WorkList) → slice_get lists q ≡ Some list → Holds list wide j

-- The lists of these PEs, of the first n, have the cell for any DSB. What they had they have.
pub record AddsAll (these : PeMask) (n cell : ℕ) (old new : List WorkList) : Type 0 where
  pub there : (wide : Bool) (q : ℕ) → q < n → pe_in these q ≡ true → HoldsFor new q wide cell
  pub kept : (wide : Bool) (q j : ℕ) → HoldsFor old q wide j → HoldsFor new q wide j

-- no DSB of the PE, in a log with n PEs, publishes more of a place with these marks; or none that reaches the PE alone
abbrev pub IsTold : Bool → ℕ → ℕ → Marks → Type 0
IsTold wide n q marks =
    (p : ℕ) → p < n → (wide || nat_eq p q) ≡ true → pe_in marks.writers q ≡ true → pe_in marks.seen p ≡ true

-- no TLBI waits for its answer; or none that isn't broadcast
abbrev pub IsQuiet : Bool → Pends → Type 0
IsQuiet wide pends = (b : Bool) (c : Cover) (p : ℕ) → (wide || not b) ≡ true → waits pends b c p ≡ false

-- the PE was a writer before, and no PE that had seen it then hasn't now
abbrev pub IsToldAsBefore : Option Marks → Marks → ℕ → Type 0
IsToldAsBefore before marks q =
    (b : Marks) × (before ≡ Some b) × (pe_in b.writers q ≡ true)
    × ((p : ℕ) → pe_in b.seen p ≡ true → pe_in marks.seen p ≡ true)

-- whether each of the first n PEs is clean
abbrev pub is_clean : ℕ → Marks → Bool
is_clean n marks = every_pe n (λ p. pe_in marks.clean p)

-- no DSB of the PE, in a log with n PEs, does this at an entry; or none that reaches the PE alone
abbrev pub RestsAt : Effect → Bool → ℕ → ℕ → Entry → Type 0
RestsAt (Publish heard) wide n q e = IsTold wide n q e.marks
RestsAt Complete wide n q e = IsQuiet wide (pends_in e.pends.items q)

abbrev pub Rests : Effect → Bool → ℕ → ℕ → Option Entry → Type 0
Rests effect wide n q o = IfSome o (RestsAt effect wide n q)

-- a DSB that does this, in a log with n PEs, leaves the place broken where it changes nothing
abbrev pub Stays : Effect → ℕ → Option Entry → Type 0
Stays (Publish heard) n o = Unit {0}
Stays Complete n o = IfSome o (λ e. is_clean n e.marks ≡ false)

-- whether a list has the cell among these, or has given up
abbrev pub is_in : List ℕ → ℕ → Bool
is_in [] j = false
is_in (x ∷ xs) j = nat_eq x j || is_in xs j

abbrev pub holds : WorkList → Bool → ℕ → Bool
holds list wide j = list.given_up || is_in (part wide list) j

abbrev pub has : Option WorkList → Bool → ℕ → Bool
has None wide j = true
has (Some list) wide j = holds list wide j

-- whether the list of a PE does, if it has one
abbrev pub holds_for : List WorkList → ℕ → Bool → ℕ → Bool
holds_for lists q wide j = has (slice_get lists q) wide j

-- each list has given up, and nothing is settled
abbrev pub GivesUp : Work → Type 0
GivesUp work =
    ((wide : Bool) (q j : ℕ) → HoldsFor work.unpublished.items q wide j)
    × ((wide : Bool) (q j : ℕ) → HoldsFor work.waiting.items q wide j) × (work.settled ≡ true → ⊥)

-- Where a list doesn't have a cell no DSB of its PE publishes, or answers, anything of the cell's place, or none that
-- reaches the PE alone does; and where all is settled no place waits to leave.
pub record Listed (work : Work) (cells : List ℕ) (entries : List Entry) : Type 0 where
  pub some : 1 ≤ work.pes
  pub told : (wide : Bool) (q j : ℕ) (marks : Marks) → q < work.pes → marks_in cells entries j ≡ Some marks
      → holds_for work.unpublished.items q wide j ≡ false → IsTold wide work.pes q marks
  pub idle : (wide : Bool) (q j : ℕ) → holds_for work.waiting.items q wide j ≡ false
      → IsQuiet wide (pends_for cells entries q j)
  pub settled : work.settled ≡ true → (j : ℕ) (marks : Marks) → marks_in cells entries j ≡ Some marks
      → is_clean work.pes marks ≡ false

-- something may wait at an entry only where the list of the issuer has its cell, or something may have waited before
abbrev pub Waits : List WorkList → ℕ → Entry → Entry → Type 0
Waits lists issuer e f =
    (wide : Bool) → HoldsFor lists issuer wide e.cell
    ⊎ (IsQuiet wide (pends_in e.pends.items issuer) → IsQuiet wide (pends_in f.pends.items issuer))
