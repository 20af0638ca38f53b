-- What the lists of work tell of each cell.
use Rattle.bbm_place_map.proofs.Common.{◌≡◌, ℕ, ◌<◌, ◌⊎◌, true, false, nat_eq, zero, suc, List, [], ◌∷◌, length, get_or}
use Rattle.bbm_place_map.proofs.Common.{Option, Some, None, Contains, refl, sym, subst, ◌∙◌, arith, inl, inr, Bool}
use Rattle.bbm_place_map.proofs.Common.{slice_get, cases_Bool, eq-eqb, eqb-true, false≢true, or_left, or_right}
use Rattle.bbm_place_map.proofs.Common.{same_Some, none-some, IfSome, Marks, PeMask, entry_in, marks_of, pends_of}
use Rattle.bbm_place_map.proofs.Common.{no_pends, Linked, Holds, HoldsFor, IsQuiet, IsTold, Rests, part, Entry}
use Rattle.bbm_place_map.proofs.Common.{Complete, Publish, Stays, WorkList, either, is_clean}
use Rattle.std.proofs.lemmas.Bool.{or_cases}
use Rattle.bbm_place_map.specs.Works.{is_in, holds, has, holds_for}
use Rattle.bbm_place_map.proofs.Idle.{idle_from, quiet_from}
use Rattle.bbm_place_map.proofs.Seats.{by_entry, seat_of}

in_from : (xs : List ℕ) (k d j : ℕ) → k < length xs → get_or xs k d ≡ j → is_in xs j ≡ true
in_from [] k d j within is = absurd (omega arith)
in_from (x ∷ xs) zero d j within is = or_left (nat_eq x j) (is_in xs j) (eq-eqb x j is)
in_from (x ∷ xs) (suc k) d j within is = or_right (nat_eq x j) (is_in xs j) (in_from xs k d j (omega arith) is)

in_to : (xs : List ℕ) (j : ℕ) → is_in xs j ≡ true → Contains xs j
in_to [] j h = absurd (false≢true h)
in_to (x ∷ xs) j h =
    elim (or_cases (nat_eq x j) (is_in xs j) h) [
      | inl same ↦ (0, omega arith, eqb-true x j same)
      | inr more ↦ let c = in_to xs j more in (suc c.0, (let within : c.0 < length xs = c.1 in omega arith), c.2)
    ]

holds_from : (list : WorkList) (wide : Bool) (j : ℕ) → Holds list wide j → holds list wide j ≡ true
holds_from list wide j h =
    elim h [
      | inl up ↦ or_left list.given_up (is_in (part wide list) j) up
      | inr c ↦ or_right list.given_up (is_in (part wide list) j) (in_from (part wide list) c.0 j j c.1 c.2)
    ]

holds_to : (list : WorkList) (wide : Bool) (j : ℕ) → holds list wide j ≡ true → Holds list wide j
holds_to list wide j h =
    either (or_cases list.given_up (is_in (part wide list) j) h) (λ up. up) (in_to (part wide list) j)

has_from : (o : Option WorkList) (wide : Bool) (j : ℕ) → ((list : WorkList) → o ≡ Some list → Holds list wide j) → has o wide j ≡ true
has_from None wide j h = refl
has_from (Some list) wide j h = holds_from list wide j (h list refl)

has_to : (o : Option WorkList) (wide : Bool) (j : ℕ) → has o wide j ≡ true → (list : WorkList) → o ≡ Some list → Holds list wide j
has_to None wide j h list is = cc
has_to (Some x) wide j h list is =
    let P : WorkList → Type 0 = λ y. Holds y wide j in
    subst P (same_Some x list is) (holds_to x wide j h)

pub for_from : (lists : List WorkList) (q : ℕ) (wide : Bool) (j : ℕ) → HoldsFor lists q wide j → holds_for lists q wide j ≡ true
for_from lists q wide j h = has_from (slice_get lists q) wide j h

pub for_to : (lists : List WorkList) (q : ℕ) (wide : Bool) (j : ℕ) → holds_for lists q wide j ≡ true → HoldsFor lists q wide j
for_to lists q wide j h = has_to (slice_get lists q) wide j h

-- what isn't known by a list is known by itself
pub known_or : (lists : List WorkList) (q : ℕ) (wide : Bool) (j : ℕ) (P : Type 0) → (holds_for lists q wide j ≡ false → P)
    → HoldsFor lists q wide j ⊎ P
known_or lists q wide j P h =
    either (cases_Bool (holds_for lists q wide j)) (for_to lists q wide j) h

pub or_known : (lists : List WorkList) (q : ℕ) (wide : Bool) (j : ℕ) (P : Type 0) → HoldsFor lists q wide j ⊎ P
    → holds_for lists q wide j ≡ false → P
or_known lists q wide j P h none =
    elim h [
      | inl is ↦ absurd (false≢true (sym none ∙ for_from lists q wide j is))
      | inr known ↦ known
    ]

-- what is known of each entry is known of each cell
pub rests_by_cell : (cells : List ℕ) (entries : List Entry) → Linked cells entries → (P : ℕ → Type 0) (R : Entry → Type 0)
    → ((k : ℕ) (e : Entry) → slice_get entries k ≡ Some e → P e.cell ⊎ R e) → (j : ℕ) → P j ⊎ IfSome (entry_in cells entries j) R
rests_by_cell cells entries linked P R known j =
    by_entry (λ o. P j ⊎ IfSome o R) (entry_in cells entries j) (λ _. inr tt)
    (λ e is. let s = seat_of linked j e is in either (known s.0 e s.2) (subst P s.3) (λ rests. rests))

pub stays_by : (n : ℕ) (o : Option Entry) → ((marks : Marks) → marks_of o ≡ Some marks → is_clean n marks ≡ false) → Stays Complete n o
stays_by n None unclean = tt
stays_by n (Some e) unclean = unclean e.marks refl

-- what is known of the marks, or of what waits, is known of the entry
module _ (wide : Bool) (n q : ℕ) where
  pub told_to : (heard : PeMask) (P : Type 0) (o : Option Entry) → ((marks : Marks) → marks_of o ≡ Some marks → P ⊎ IsTold wide n q marks)
      → P ⊎ Rests (Publish heard) wide n q o
  told_to heard P None known = inr tt
  told_to heard P (Some e) known = known e.marks refl

  pub told_from : (heard : PeMask) (P : Type 0) (o : Option Entry) → P ⊎ Rests (Publish heard) wide n q o
      → (marks : Marks) → marks_of o ≡ Some marks → P ⊎ IsTold wide n q marks
  told_from heard P None known marks is = absurd (none-some marks is)
  told_from heard P (Some e) known marks is = subst (λ (x : Marks). P ⊎ IsTold wide n q x) (same_Some e.marks marks is) known

  pub quiet_to : (o : Option Entry) → IsQuiet wide (pends_of q o) → Rests Complete wide n q o
  quiet_to None quiet = tt
  quiet_to (Some e) quiet = quiet

  pub quiet_of_rest : (o : Option Entry) → Rests Complete wide n q o → IsQuiet wide (pends_of q o)
  quiet_of_rest None rests = quiet_from wide no_pends (idle_from no_pends refl)
  quiet_of_rest (Some e) rests = rests
