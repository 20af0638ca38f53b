-- What lists of work have after an edit, and what marks are told.
use Rattle.bbm_place_map.proofs.Common.{◌≡◌, ◌≢◌, ℕ, ◌<◌, ◌≤◌, ◌⊎◌, Bool, true, false, not, ◌&&◌, List, [], ◌∷◌, ◌++◌}
use Rattle.bbm_place_map.proofs.Common.{length, Contains, refl, ap, sym, subst, ◌∙◌, arith, inl, inr, slice_get, set}
use Rattle.bbm_place_map.proofs.Common.{get_or, drop, cases_eq, same_Some, slice_get_read, proved, If, Is, PeMask}
use Rattle.bbm_place_map.proofs.Common.{Holds, HoldsFor, part, WorkList, Some, ◌+◌, Entry, pe_in, put_here, put_away}
use Rattle.bbm_place_map.proofs.Common.{either, false≢true}
use Rattle.std.proofs.Common.{Vec, Global}
use Rattle.bbm_lemmas.proofs.Tautologies.Claim.{Either}
use Rattle.bbm_place_map.proofs.Lists.{set_get, push_get}
use Rattle.bbm_lemmas.proofs.Elements.{contains_head}
use Rattle.std.proofs.lemmas.List.Elements.{Contains-append_left, Contains-append_right}
use Rattle.std.proofs.lemmas.List.{drop-append-le}

-- the list of a PE, read
pub read_for : (lists : List WorkList) (k q : ℕ) (x : WorkList) → k < length lists → k ≡ q → x ≡ get_or lists k x → (wide : Bool) (j : ℕ)
    → HoldsFor lists q wide j → Holds x wide j
read_for lists k q x within same is wide j holds =
    holds x (ap (slice_get lists) (sym same) ∙ slice_get_read lists (length lists) k x refl within is)

-- and written
module _ (lists : List WorkList) (k : ℕ) (new : WorkList) (within : k < length lists) where
  pub set_there : (q : ℕ) → k ≡ q → (wide : Bool) (j : ℕ) → Holds new wide j → HoldsFor (set lists k new) q wide j
  set_there q same wide j holds list is =
      subst (λ (x : WorkList). Holds x wide j)
      (same_Some new list (sym (put_here _ _ (λ i. set_get lists k new i within) q (sym same)) ∙ is)) holds

  pub set_others : (wide : Bool) (q : ℕ) → q ≢ k → (j : ℕ) → HoldsFor lists q wide j → HoldsFor (set lists k new) q wide j
  set_others wide q other j holds list is = holds list (sym (put_away _ _ (λ i. set_get lists k new i within) q other) ∙ is)

  pub set_kept : (old : WorkList) → old ≡ get_or lists k old → ((wide : Bool) (j : ℕ) → Holds old wide j → Holds new wide j)
      → (wide : Bool) (q j : ℕ) → HoldsFor lists q wide j → HoldsFor (set lists k new) q wide j
  set_kept old was kept wide q j holds =
      elim (cases_eq q k) [
        | inl same ↦ set_there q (sym same) wide j (kept wide j (read_for lists k q old within (sym same) was wide j holds))
        | inr other ↦ set_others wide q other j holds
      ]

pub push_kept : (lists : List WorkList) (new : WorkList) → new.given_up ≡ true → (wide : Bool) (q j : ℕ) → HoldsFor lists q wide j
    → HoldsFor (lists ++ new ∷ []) q wide j
push_kept lists new up wide q j holds list is =
    elim (cases_eq q (length lists)) [
      | inl same ↦
          inl (ap (λ (x : WorkList). x.given_up) (sym (same_Some new list (sym (put_here _ _ (push_get lists new) q same) ∙ is))) ∙ up)
      | inr other ↦ holds list (sym (put_away _ _ (push_get lists new) q other) ∙ is)
    ]

pub still_in : (x y : Bool) → (x && not y) ≡ false → (x ≡ true → y ≡ true)
still_in = proved 2 (λ x y. If (Is (x && not y) false) (If (Is x true) (Is y true))) refl

not_fresh : (x y : Bool) → (x && not y) ≡ false → (x ≡ false) ⊎ (y ≡ true)
not_fresh = proved 2 (λ x y. If (Is (x && not y) false) (Either (Is x false) (Is y true))) refl

-- a writer that isn't fresh was one before, and what was seen before is seen
pub told_before : (writers old seen seen' gone fresh : PeMask) → ((p : ℕ) → pe_in gone p ≡ (pe_in seen p && not (pe_in seen' p)))
    → ((p : ℕ) → pe_in gone p ≡ false) → ((p : ℕ) → pe_in fresh p ≡ (pe_in writers p && not (pe_in old p)))
    → (q : ℕ) → pe_in fresh q ≡ false
    → (pe_in writers q ≡ false) ⊎ ((pe_in old q ≡ true) × ((p : ℕ) → pe_in seen p ≡ true → pe_in seen' p ≡ true))
told_before writers old seen seen' gone fresh is_gone none is_fresh q not_in =
    either (not_fresh (pe_in writers q) (pe_in old q) (sym (is_fresh q) ∙ not_in)) (λ no. no)
    (λ was. (was, λ p. still_in (pe_in seen p) (pe_in seen' p) (sym (is_gone p) ∙ none p)))

-- one more entry is listed, if there is something left to do
pub relist_more : (entries : List Entry) (k : ℕ) (x : Entry) (old new : WorkList) (Rests : Bool → Entry → Type 0) → k < length entries
    → x ≡ get_or entries k x → ((wide : Bool) → Holds new wide x.cell ⊎ Rests wide x)
    → ((wide : Bool) (j : ℕ) → Holds old wide j → Holds new wide j)
    → ((wide : Bool) (m : ℕ) (e : Entry) → m < k → slice_get entries m ≡ Some e → Holds old wide e.cell ⊎ Rests wide e)
    → (wide : Bool) (m : ℕ) (e : Entry) → m < k + 1 → slice_get entries m ≡ Some e → Holds new wide e.cell ⊎ Rests wide e
relist_more entries k x old new Rests within read here kept before wide m e below is =
    elim (cases_eq m k) [
      | inl same ↦
          subst (λ (y : Entry). Holds new wide y.cell ⊎ Rests wide y)
          (same_Some x e (sym (slice_get_read entries (length entries) k x refl within read) ∙ ap (slice_get entries) (sym same) ∙ is)) (here wide)
      | inr other ↦ either (before wide m e (omega arith) is) (kept wide e.cell) (λ rests. rests)
    ]

-- a cell is added to a list, behind those that are passed
module _ (list : WorkList) (cells : Vec ℕ Global) (c : ℕ) (added : cells.items ≡ list.cells.items ++ c ∷ [])
    (within : list.local_done ≤ length list.cells.items) where
  more_part : (wide : Bool) → part wide (record list { cells = cells }) ≡ part wide list ++ c ∷ []
  more_part true = added
  more_part false = ap (drop list.local_done) added ∙ drop-append-le list.local_done list.cells.items (c ∷ []) within

  pub more_there : (wide : Bool) → Holds (record list { cells = cells }) wide c
  more_there wide = inr (subst (λ (xs : List ℕ). Contains xs c) (sym (more_part wide)) (Contains-append_right (part wide list) (c ∷ []) c (contains_head [] c)))

  pub more_kept : (wide : Bool) (j : ℕ) → Holds list wide j → Holds (record list { cells = cells }) wide j
  more_kept wide j holds =
      either holds (λ up. up)
      (λ h. subst (λ (xs : List ℕ). Contains xs j) (sym (more_part wide)) (Contains-append_left (part wide list) (c ∷ []) j h))

-- what a list that hasn't given up holds is among its cells
pub listed_in : (list : WorkList) (wide : Bool) (cells : List ℕ) (j : ℕ) → list.given_up ≡ false → cells ≡ part wide list → Holds list wide j
    → Contains cells j
listed_in list wide cells j not_up is (inl up) = absurd (false≢true (sym not_up ∙ up))
listed_in list wide cells j not_up is (inr has) = subst (λ (xs : List ℕ). Contains xs j) (sym is) has
