-- Cells and entries that name each other, after an entry comes.
use Rattle.bbm_place_map.proofs.Common.{◌≡◌, ℕ, ◌+◌, ◌<◌, nat_eq, List, [], ◌∷◌, ◌++◌, length, Option, Some, None, refl}
use Rattle.bbm_place_map.proofs.Common.{ap, sym, ◌∙◌, arith, inl, inr, if◌then◌else◌, slice_get, count_by, is_some}
use Rattle.bbm_place_map.proofs.Common.{option_map, cases_eq, cases_lt, slice_get_past, same_Some, none-some, slot_in}
use Rattle.bbm_place_map.proofs.Common.{is_listed, cell_at, entry_of, entry_in, marks_of, pends_of, pends_in, Linked}
use Rattle.bbm_place_map.proofs.Common.{WasSeated, position, ◌⊎◌, Entry, put_here, put_away, split_at}
use Rattle.std.proofs.Common.{length-append}
use Rattle.bbm_place_map.proofs.Lists.{push_get}
use Rattle.bbm_place_map.proofs.Edits.{one_if}
use Rattle.bbm_place_map.proofs.Seats.{the_cell}

pub cell_within : (entries : List Entry) (k i : ℕ) → cell_at entries k ≡ Some i → k < length entries
cell_within entries k i h =
    elim (cases_lt k (length entries)) [
      | inl lt ↦ lt
      | inr ge ↦ absurd (none-some i (sym (ap (option_map the_cell) (slice_get_past entries k ge)) ∙ h))
    ]

-- what is kept of an entry that is put in the place of another one, or of none
module _ (start now : ℕ → Option Entry) (e : Entry) (j : ℕ) (is : (i : ℕ) → now i ≡ (if nat_eq i j then Some e else start i)) where
  pub marks_put : (i : ℕ) → marks_of (now i) ≡ (if nat_eq i j then Some e.marks else marks_of (start i))
  marks_put i = split_at i j (λ same. ap marks_of (put_here _ _ is i same)) (λ other. ap marks_of (put_away _ _ is i other))

  pub pends_put : (q : ℕ) → pends_in e.pends.items q ≡ pends_of q (start j) → (i : ℕ) → pends_of q (now i) ≡ pends_of q (start i)
  pends_put q kept i =
      elim (cases_eq i j) [
        | inl same ↦ ap (pends_of q) (put_here _ _ is i same) ∙ kept ∙ ap (λ (x : ℕ). pends_of q (start x)) (sym same)
        | inr other ↦ ap (pends_of q) (put_away _ _ is i other)
      ]

-- what leads to a number leads back from it, with one more pair
leads_more : (s s' t t' : ℕ → Option ℕ) (j n : ℕ) → ((i : ℕ) → s' i ≡ (if nat_eq i j then Some n else s i))
    → ((k : ℕ) → t' k ≡ (if nat_eq k n then Some j else t k)) → t n ≡ None → ((i k : ℕ) → s i ≡ Some k → t k ≡ Some i)
    → (i k : ℕ) → s' i ≡ Some k → t' k ≡ Some i
leads_more s s' t t' j n to fro free leads i k h =
    elim (cases_eq i j) [
      | inl same ↦ put_here _ _ fro k (same_Some k n (sym h ∙ put_here _ _ to i same)) ∙ ap (λ (x : ℕ). Some x) (sym same)
      | inr other ↦
          let old : t k ≡ Some i = leads i k (sym (put_away _ _ to i other) ∙ h) in
          put_away _ _ fro k (λ same. none-some i (sym free ∙ ap t (sym same) ∙ old)) ∙ old
    ]

-- an entry for a cell that had none
module _ (cells cells' : List ℕ) (entries : List Entry) (e : Entry) (j n : ℕ) (linked : Linked cells entries)
    (free : slot_in cells j ≡ None) (at : e.cell ≡ j) (number : n ≡ length entries)
    (slots : (i : ℕ) → slot_in cells' i ≡ (if nat_eq i j then Some n else slot_in cells i))
    (count : count_by is_listed cells' + one_if (is_some (slot_in cells j)) ≡ count_by is_listed cells + 1) where
  gets : (k : ℕ) → slice_get (entries ++ e ∷ []) k ≡ (if nat_eq k n then Some e else slice_get entries k)
  gets k = push_get entries e k ∙ ap (λ (m : ℕ). if nat_eq k m then Some e else slice_get entries k) (sym number)

  past : slice_get entries n ≡ None
  past = slice_get_past entries n (omega arith)

  cells_are : (k : ℕ) → cell_at (entries ++ e ∷ []) k ≡ (if nat_eq k n then Some j else cell_at entries k)
  cells_are k =
      split_at k n (λ same. ap (option_map the_cell) (put_here _ _ gets k same) ∙ ap (λ (x : ℕ). Some x) at)
      (λ other. ap (option_map the_cell) (put_away _ _ gets k other))

  pub linked_more : Linked cells' (entries ++ e ∷ [])
  linked_more = record {
    forth =
        leads_more (slot_in cells) (slot_in cells') (cell_at entries) (cell_at (entries ++ e ∷ [])) j n slots cells_are
        (ap (option_map the_cell) past) linked.forth;
    back = λ i k. leads_more (cell_at entries) (cell_at (entries ++ e ∷ [])) (slot_in cells) (slot_in cells') n j cells_are slots free
        (λ x y. linked.back y x) k i;
    count =
        let none : one_if (is_some (slot_in cells j)) ≡ 0 = ap (λ (o : Option ℕ). one_if (is_some o)) free in
        let old : count_by is_listed cells ≡ length entries = linked.count in
        omega (arith, length-append entries (e ∷ []));
  }

  old_same : (i : ℕ) (o : Option ℕ) → slot_in cells i ≡ o → entry_of (entries ++ e ∷ []) o ≡ entry_of entries o
  old_same i None h = refl
  old_same i (Some k) h =
      let below : k < length entries = cell_within entries k i (linked.forth i k h) in
      put_away _ _ gets k (λ same. absurd (omega arith))

  pub entries_more : (i : ℕ) → entry_in cells' (entries ++ e ∷ []) i ≡ (if nat_eq i j then Some e else entry_in cells entries i)
  entries_more i =
      split_at i j (λ same. ap (entry_of (entries ++ e ∷ [])) (put_here _ _ slots i same) ∙ put_here _ _ gets n refl)
      (λ other. ap (entry_of (entries ++ e ∷ [])) (put_away _ _ slots i other) ∙ old_same i (slot_in cells i) refl)

  pub seats_more : (k : ℕ) (x : Entry) → slice_get (entries ++ e ∷ []) k ≡ Some x → WasSeated entries x ⊎ (position x ≡ position e)
  seats_more k x h =
      elim (cases_eq k n) [
        | inl same ↦ inr (ap position (same_Some x e (sym h ∙ put_here _ _ gets k same)))
        | inr other ↦ inl (k, x, sym (put_away _ _ gets k other) ∙ h, refl)
      ]
