-- Entries that change one after another, each in its place.
use Rattle.bbm_place_map.proofs.Common.{◌≡◌, ◌≢◌, ℕ, nat_eq, List, Option, Some, None, refl, ap, sym, subst, ◌∙◌, inl}
use Rattle.bbm_place_map.proofs.Common.{inr, if◌then◌else◌, slice_get, cases_eq, position, entry_of, Advances, Entry}
use Rattle.bbm_place_map.proofs.Common.{put_here, put_away}

at_both : (R : Entry → Entry → Type 0) (a a' b b' : Option Entry) → a ≡ a' → b ≡ b' → Advances R a' b' → Advances R a b
at_both R a a' b b' is is' h =
    let P : Option Entry → Type 0 = λ x. Advances R x b' in
    let Q : Option Entry → Type 0 = λ y. Advances R a y in
    subst Q (sym is') (subst P (sym is) h)

-- what holds where neither of two entries is there, and where both are, holds of what advances
pub by_entries : (R : Entry → Entry → Type 0) (P : Option Entry → Option Entry → Type 0) → P None None
    → ((e f : Entry) → position f ≡ position e → R e f → P (Some e) (Some f)) → (o p : Option Entry) → Advances R o p → P o p
by_entries R P none some None None h = none
by_entries R P none some (Some e) (Some f) h = some e f h.0 h.1
by_entries R P none some _ _ h = absurd h

pub column_kept : {X : Type 0} (c : Option Entry → X) (R : Entry → Entry → Type 0)
    → ((e f : Entry) → position f ≡ position e → R e f → c (Some f) ≡ c (Some e)) → (o p : Option Entry) → Advances R o p → c p ≡ c o
column_kept c R same = by_entries R (λ o p. c p ≡ c o) refl same

pub advance_by : (R S : Entry → Entry → Type 0) → ((e f : Entry) → R e f → S e f) → (o p : Option Entry) → Advances R o p → Advances S o p
advance_by R S by = by_entries R (Advances S) tt (λ e f seated h. (seated, by e f h))

pub advance_then : (A B C : Entry → Entry → Type 0) → ((e f g : Entry) → position f ≡ position e → A e f → B f g → C e g) → (o p r : Option Entry)
    → Advances A o p → Advances B p r → Advances C o r
advance_then A B C by None None None h h' = tt
advance_then A B C by None (Some f) r h h' = absurd h
advance_then A B C by (Some e) None r h h' = absurd h
advance_then A B C by (Some e) (Some f) (Some g) h h' = (h'.0 ∙ h.0, by e f g h.0 h.1 h'.1)
advance_then A B C by _ _ _ h h' = absurd h'

pub self_advances : (S : Entry → Entry → Type 0) (o : Option Entry) → ((x : Entry) → o ≡ Some x → S x x) → Advances S o o
self_advances S None same = tt
self_advances S (Some x) same = (refl, same x refl)

-- where an entry is after there was one before
pub advanced_from : (R : Entry → Entry → Type 0) (o : Option Entry) (f : Entry) → Advances R o (Some f)
    → (e : Entry) × (o ≡ Some e) × (position f ≡ position e) × R e f
advanced_from R None f h = absurd h
advanced_from R (Some e) f h = (e, refl, h.0, h.1)

-- of a cell
pub of_cell : (R : Entry → Entry → Type 0) (old new : List Entry) → ((k : ℕ) → Advances R (slice_get old k) (slice_get new k))
    → (s : Option ℕ) → Advances R (entry_of old s) (entry_of new s)
of_cell R old new each None = tt
of_cell R old new each (Some k) = each k

-- one entry changes
pub one_advances : (S : ℕ → Entry → Entry → Type 0) (entries new : List Entry) (k : ℕ) (e f : Entry) → slice_get entries k ≡ Some e
    → position f ≡ position e → S k e f → ((i : ℕ) → slice_get new i ≡ (if nat_eq i k then Some f else slice_get entries i))
    → ((m : ℕ) (x : Entry) → m ≢ k → slice_get entries m ≡ Some x → S m x x) → (m : ℕ)
    → Advances (S m) (slice_get entries m) (slice_get new m)
one_advances S entries new k e f was seated related gets same m =
    elim (cases_eq m k) [
      | inl is ↦
          at_both (S m) (slice_get entries m) (Some e) (slice_get new m) (Some f) (ap (slice_get entries) is ∙ was) (put_here _ _ gets m is)
          (seated, subst (λ (n : ℕ). S n e f) (sym is) related)
      | inr other ↦
          at_both (S m) (slice_get entries m) (slice_get entries m) (slice_get new m) (slice_get entries m) refl (put_away _ _ gets m other)
          (self_advances (S m) (slice_get entries m) (λ x. same m x other))
    ]
