-- Entries that change each in its place.
use Rattle.bbm_place_map.proofs.Common.{◌≡◌, ◌≢◌, ℕ, ◌*◌, List, Option, Some, None, refl, ap, sym, ◌∙◌, slice_get, inr}
use Rattle.bbm_place_map.proofs.Common.{subst, Cover, Found, NotesAmong, NotesAt, NotesFound, at_index, index_of}
use Rattle.bbm_place_map.proofs.Common.{none-some, position, BrokenMap, ChangesOne, EachAdvances, AtPlace, Entry}
use Rattle.bbm_place_map.proofs.Common.{cases_eq, inl, same_Some, Advances, AreSeated, IsKept, Issuing, Keeps, Numbered}
use Rattle.bbm_place_map.proofs.Common.{SameSeats, arith, length, ◌+◌, ◌<◌, ◌≤◌, entry_number, number_at, option_map}
use Rattle.bbm_place_map.proofs.Common.{slice_get_within}
use Rattle.bbm_place_map.proofs.Advancing.{advance_then, advanced_from, by_entries, column_kept, one_advances}
use Rattle.bbm_place_map.proofs.Advancing.{self_advances}
use Rattle.bbm_place_map.proofs.Noting.{among_over, at_over, gets_same}
use Rattle.bbm_place_map.proofs.Numbers.{number_from, numbers_kept}
use Rattle.bbm_place_map.proofs.Places.{index_once}
use Rattle.bbm_place_map.proofs.Positions.{seats_by}
use Rattle.bbm_place_map.proofs.Seats.{by_index, entry_there}

pub seats_all : (old : BrokenMap) → SameSeats old old
seats_all old = record { pages = refl; len = refl }

seats_more : {old mid new : BrokenMap} → SameSeats old mid → SameSeats mid new → SameSeats old new
seats_more a b = record { pages = b.pages ∙ a.pages; len = b.len ∙ a.len }

pub each_then : {A B : ℕ → Entry → Entry → Type 0} (C : ℕ → Entry → Entry → Type 0) {old mid new : BrokenMap} → EachAdvances A old mid
    → EachAdvances B mid new → ((m : ℕ) (e f g : Entry) → position f ≡ position e → A m e f → B m f g → C m e g) → EachAdvances C old new
each_then {A} {B} C {old} {mid} {new} a b by = record {
  same = seats_more a.same b.same;
  each = λ m.
      advance_then (A m) (B m) (C m) (by m) (slice_get old.entries m) (slice_get mid.entries m) (slice_get new.entries m)
      (a.each m) (b.each m);
}

-- one entry changed
one_changed : {R : Entry → Entry → Type 0} (S : ℕ → Entry → Entry → Type 0) {old new : BrokenMap} {k : ℕ} → ChangesOne k R old new
    → (e : Entry) → slice_get old.entries k ≡ Some e → ((f : Entry) → R e f → S k e f)
    → ((m : ℕ) (x : Entry) → m ≢ k → slice_get old.entries m ≡ Some x → S m x x) → EachAdvances S old new
one_changed S {old} {new} {k} c e was now others =
    let f = c.entry e was in
    record { same = c.same; each = one_advances S old.entries new.entries k e f.0 was f.1 (now f.0 f.2) f.3 others }

-- An entry below a number changed as the relation says, and no other did.
pub record ChangesBelow (R : ℕ → Entry → Entry → Type 0) (k m : ℕ) (e f : Entry) : Type 0 where
  pub done : m < k → R m e f
  pub rest : k ≤ m → f ≡ e

pub below_none : (R : ℕ → Entry → Entry → Type 0) (old : BrokenMap) → EachAdvances (ChangesBelow R 0) old old
below_none R old = record {
  same = seats_all old;
  each = λ m.
      self_advances (ChangesBelow R 0 m) (slice_get old.entries m)
      (λ x _. record { done = λ below. absurd (omega (arith, below)); rest = λ _. refl });
}

module _ {R : ℕ → Entry → Entry → Type 0} {k : ℕ} {old mid : BrokenMap} (below : EachAdvances (ChangesBelow R k) old mid) where
  pub below_rest : (m : ℕ) → k ≤ m → slice_get mid.entries m ≡ slice_get old.entries m
  below_rest m above =
      column_kept (λ o. o) (ChangesBelow R k m) (λ e f _ h. ap (λ (x : Entry). Some x) (h.rest above)) (slice_get old.entries m)
      (slice_get mid.entries m) (below.each m)

  pub below_all : length old.entries ≤ k → EachAdvances R old mid
  below_all whole = record {
    same = below.same;
    each = λ m.
        by_entries (ChangesBelow R k m) (λ o p. slice_get old.entries m ≡ o → Advances (R m) o p) (λ _. tt)
        (λ e f seated h is. (seated, h.done (omega (arith, whole, slice_get_within old.entries m e is)))) (slice_get old.entries m)
        (slice_get mid.entries m) (below.each m) refl;
  }

  -- so does the next entry
  pub below_more : {Q : Entry → Entry → Type 0} {new : BrokenMap} → k < length old.entries → ChangesOne k Q mid new
      → ((e f : Entry) → Q e f → R k e f) → EachAdvances (ChangesBelow R (k + 1)) old new
  below_more within c by =
      let e = entry_there mid.entries k (omega (arith, within, below.same.len)) in
      each_then (ChangesBelow R (k + 1)) below
      (one_changed (λ m e f. (m ≡ k → R m e f) × (m ≢ k → f ≡ e)) c e.0 e.1 (λ f h. (λ _. by e.0 f h, λ other. absurd (other refl)))
      (λ m x other _. (λ same. absurd (other same), λ _. refl)))
      (λ m e f g _ h h'. record {
        done = λ low.
            elim (cases_eq m k) [
              | inl same ↦ subst (λ (x : Entry). R m x g) (h.rest (omega (arith, same))) (h'.0 same)
              | inr other ↦ subst (R m e) (sym (h'.1 other)) (h.done (omega (arith, low, other)))
            ];
        rest = λ high. h'.1 (λ same. absurd (omega (arith, high, same))) ∙ h.rest (omega (arith, high));
      })

  pub below_kept : k < length old.entries → ((e : Entry) → R k e e) → EachAdvances (ChangesBelow R (k + 1)) old mid
  below_kept within stays =
      let none : ChangesOne k (R k) mid mid
      = record { same = seats_all mid; entry = λ e is. (e, refl, stays e, gets_same mid.entries k e is) } in
      below_more within none (λ e f h. h)

module _ {R : ℕ → Entry → Entry → Type 0} {old new : BrokenMap} (changed : EachAdvances R old new) where
  -- where an entry is after there was one before
  pub each_from : (m : ℕ) (f : Entry) → slice_get new.entries m ≡ Some f
      → (e : Entry) × (slice_get old.entries m ≡ Some e) × (position f ≡ position e) × R m e f
  each_from m f is =
      advanced_from (R m) (slice_get old.entries m) f (subst (Advances (R m) (slice_get old.entries m)) is (changed.each m))

  pub seats_moved : AreSeated old.entries new.entries
  seats_moved m f is = let e = each_from m f is in (m, e.0, e.1, e.2)

  -- each place has the number that it had
  pub numbers_moved : (j : ℕ) → number_at new j ≡ number_at old j
  numbers_moved =
      numbers_kept old.entries new.entries (λ m.
      column_kept (option_map (λ (e : Entry). e.index)) (R m) (λ e f seated _. ap (λ (p : ℕ × ℕ × ℕ). Some p.1) seated)
      (slice_get old.entries m) (slice_get new.entries m) (changed.each m))

-- the places stay where the pages say
pub kept_moved : {base : ℕ → Option ℕ} {R : ℕ → Entry → Entry → Type 0} {old new : BrokenMap} → IsKept base old → EachAdvances R old new
    → IsKept base new
kept_moved {base} {R} {old} {new} kept changed =
    let N : ℕ → Type 0 = λ n. Numbered base (512 * n) in
    record {
      once = λ k f is.
          let e = each_from changed k f is in
          numbers_moved changed f.index ∙ ap (λ (p : ℕ × ℕ × ℕ). number_at old p.1) e.2 ∙ kept.once k e.0 e.1;
      numbered = subst N (sym changed.same.pages) kept.numbered;
      placed =
          seats_by (λ p. index_of base p.0 ≡ Some p.1) old.entries new.entries
          (seats_moved changed) kept.placed;
    }

module _ {base : ℕ → Option ℕ} {broken : BrokenMap} (kept : IsKept base broken) (place : ℕ) where
  -- a number is that of the entry of its place, and an entry has its number
  pub place_of_number : (k : ℕ) → entry_number base broken place ≡ Some k → (e : Entry) × (slice_get broken.entries k ≡ Some e) × (e.place ≡ place)
  place_of_number k =
      by_index (λ o. at_index None (number_at broken) o ≡ Some k → (e : Entry) × (slice_get broken.entries k ≡ Some e) × (e.place ≡ place))
      (index_of base place) (λ h. absurd (none-some k h))
      (λ j at h.
      let e = number_from broken.entries j k h in
      (e.0, e.1, index_once base (512 * broken.pages) kept.numbered e.0.place place j (kept.placed k e.0 e.1 ∙ ap (λ (n : ℕ). Some n) e.2) at))

  pub number_of_place : (m : ℕ) (x : Entry) → slice_get broken.entries m ≡ Some x → x.place ≡ place → entry_number base broken place ≡ Some m
  number_of_place m x is same =
      ap (entry_number base broken) (sym same) ∙ ap (at_index None (number_at broken)) (kept.placed m x is) ∙ kept.once m x is

  -- the entry of a place changed, if it is broken
  pub place_changed : {R : Entry → Entry → Type 0} {new : BrokenMap} (k : ℕ) → entry_number base broken place ≡ Some k
      → ChangesOne k R broken new → EachAdvances (λ _. AtPlace place R) broken new
  place_changed {R} {new} k at changes =
      let e = place_of_number k at in
      one_changed (λ _. AtPlace place R) changes e.0 e.1 (λ f h. (λ here. h, λ other. absurd (other e.2)))
      (λ m x other is. (λ here. absurd (other (same_Some m k (sym (number_of_place m x is here) ∙ at))), λ apart. refl))

  pub place_none : (R : Entry → Entry → Type 0) → entry_number base broken place ≡ None → EachAdvances (λ _. AtPlace place R) broken broken
  place_none R none = record {
    same = seats_all broken;
    each = λ m.
        self_advances (AtPlace place R) (slice_get broken.entries m)
        (λ x is. (λ here. absurd (none-some m (sym none ∙ number_of_place m x is here)), λ apart. refl));
  }

-- room was made before a TLBI was noted
pub at_after_room : (covers : List Cover) (by : Issuing) {old mid new : BrokenMap} → EachAdvances (λ _. Keeps) old mid
    → EachAdvances (NotesAt covers by) mid new → EachAdvances (NotesAt covers by) old new
at_after_room covers by a b = each_then (NotesAt covers by) a b (λ m e f g seated. at_over covers by m e f g)

pub among_after_room : (found : List Found) (by : Issuing) {old mid new : BrokenMap} → EachAdvances (λ _. Keeps) old mid
    → EachAdvances (λ _. NotesFound found by) mid new → EachAdvances (λ _. NotesAmong found by) old new
among_after_room found by a b = each_then (λ _. NotesAmong found by) a b (λ m. among_over found by)

-- more room at one place
pub keeps_then : {X : Entry → Type 0} {place : ℕ} {old mid new : BrokenMap} → EachAdvances (λ _. Keeps) old mid
    → EachAdvances (λ _. AtPlace place (λ e f. Keeps e f × X f)) mid new → EachAdvances (λ _. Keeps) old new
keeps_then {X} {place} a b =
    each_then (λ _. Keeps) a b (λ m e f g seated h h'.
    let kept : Keeps f g = elim (cases_eq f.place place) [
      | inl here ↦ (h'.0 here).0
      | inr other ↦ (ap (λ (x : Entry). x.marks) (h'.1 other), ap (λ (x : Entry). x.pends.items) (h'.1 other))
    ] in
    (kept.0 ∙ h.0, kept.1 ∙ h.1))
