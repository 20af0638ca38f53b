-- An entry taken out, and the last one put in its place.
use Rattle.bbm_place_map.proofs.Common.{◌≡◌, ℕ, ◌+◌, ◌-◌, ◌<◌, true, nat_eq, nat_le, List, length, Option, Some, None}
use Rattle.bbm_place_map.proofs.Common.{is_some, refl, ap, sym, ◌∙◌, arith, inl, inr, if◌then◌else◌, slice_get, get_or}
use Rattle.bbm_place_map.proofs.Common.{count_by, swap_remove, option_map, cases_eq, cases_lt, eq-eqb, ne_eqb}
use Rattle.bbm_place_map.proofs.Common.{cond-true, cond-false, slice_get_read, slice_get_past, none-some, same_Some}
use Rattle.bbm_place_map.proofs.Common.{slot_in, is_listed, cell_at, entry_in, Linked, AreSeated, Entry, ◌≢◌, lt-leb}
use Rattle.bbm_place_map.proofs.Common.{length-set, entry_of, put_here, put_away, split_at, if_then}
use Rattle.bbm_place_map.proofs.Lists.{swap_get}
use Rattle.bbm_place_map.proofs.Edits.{slot_within, one_if}
use Rattle.bbm_place_map.proofs.Seats.{the_cell}
use Rattle.std.proofs.lemmas.List.{length-take}

-- the entry with this number, read
pub entry_read : (entries : List Entry) (k : ℕ) (x : Entry) → k < length entries → x ≡ get_or entries k x → slice_get entries k ≡ Some x
entry_read entries k x within is = slice_get_read entries (length entries) k x refl within is

pub entry_same : (entries : List Entry) (k : ℕ) (x e : Entry) → k < length entries → x ≡ get_or entries k x → slice_get entries k ≡ Some e
    → x ≡ e
entry_same entries k x e within is h = same_Some x e (sym (entry_read entries k x within is) ∙ h)

pub cell_read : (entries : List Entry) (k : ℕ) (x : Entry) → k < length entries → x ≡ get_or entries k x → cell_at entries k ≡ Some x.cell
cell_read entries k x within is = ap (option_map (λ (e : Entry). e.cell)) (entry_read entries k x within is)

-- the cell of an entry is one of the cells
pub cell_inside : (cells : List ℕ) (entries : List Entry) (k : ℕ) (x : Entry) → Linked cells entries → k < length entries
    → x ≡ get_or entries k x → x.cell < length cells
cell_inside cells entries k x linked within is = slot_within cells x.cell k (linked.back x.cell k (cell_read entries k x within is))

-- what leads to a number leads back from it, with one pair less, whose number another pair takes
leads_less : (s mid s' t u t' : ℕ → Option ℕ) (j k l m : ℕ) → ((i : ℕ) → mid i ≡ (if nat_eq i l then Some k else s i))
    → ((i : ℕ) → s' i ≡ (if nat_eq i j then None else mid i)) → ((i : ℕ) → u i ≡ (if nat_eq i k then Some l else t i))
    → ((i : ℕ) → t' i ≡ (if nat_eq i m then None else u i)) → t k ≡ Some j → t m ≡ Some l
    → ((i o : ℕ) → s i ≡ Some o → t o ≡ Some i) → (i o : ℕ) → s' i ≡ Some o → t' o ≡ Some i
leads_less s mid s' t u t' j k l m mids slots us ts this last leads i o h =
    elim (cases_eq i j) [
      | inl gone ↦ absurd (none-some o (sym (put_here _ _ slots i gone) ∙ h))
      | inr other ↦
          let was : mid i ≡ Some o = sym (put_away _ _ slots i other) ∙ h in
          elim (cases_eq i l) [
            | inl moved ↦
                let here : o ≡ k = same_Some o k (sym was ∙ put_here _ _ mids i moved) in
                let there : t m ≡ Some i = last ∙ ap (λ (x : ℕ). Some x) (sym moved) in
                put_away _ _ ts o (λ end. other (same_Some i j (sym there ∙ ap t (sym end ∙ here) ∙ this)))
                ∙ put_here _ _ us o here ∙ ap (λ (x : ℕ). Some x) (sym moved)
            | inr apart ↦
                let old : t o ≡ Some i = leads i o (sym (put_away _ _ mids i apart) ∙ was) in
                put_away _ _ ts o (λ end. apart (same_Some i l (sym old ∙ ap t end ∙ last)))
                ∙ put_away _ _ us o (λ same. other (same_Some i j (sym old ∙ ap t same ∙ this))) ∙ old
          ]
    ]

pub record Left (cells cells' : List ℕ) (entries entries' : List Entry) (j k : ℕ) : Type 0 where
  pub linked : Linked cells' entries'
  pub kept : (i : ℕ) → entry_in cells' entries' i ≡ (if nat_eq i j then None else entry_in cells entries i)
  pub front : (m : ℕ) → m < k → slice_get entries' m ≡ slice_get entries m
  pub seats : AreSeated entries entries'

module _ (cells mid cells' : List ℕ) (entries entries' : List Entry) (k n : ℕ) (x y r : Entry)
    (linked : Linked cells entries) (within : k < length entries) (number : n ≡ length entries)
    (this : x ≡ get_or entries k x) (last : y ≡ get_or entries (n - 1) y)
    (mids : (i : ℕ) → slot_in mid i ≡ (if nat_eq i y.cell then Some k else slot_in cells i))
    (slots : (i : ℕ) → slot_in cells' i ≡ (if nat_eq i x.cell then None else slot_in mid i))
    (mid_count : count_by is_listed mid + one_if (is_some (slot_in cells y.cell)) ≡ count_by is_listed cells + 1)
    (count : count_by is_listed cells' + one_if (is_some (slot_in mid x.cell)) ≡ count_by is_listed mid + 0)
    (items : entries' ≡ swap_remove entries k r) where
  abbrev end : ℕ
  end = length entries - 1

  this_cell : cell_at entries k ≡ Some x.cell
  this_cell = cell_read entries k x within this

  last_is : slice_get entries end ≡ Some y
  last_is = entry_read entries end y (omega arith) (last ∙ ap (λ (m : ℕ). get_or entries (m - 1) y) number)

  last_cell : cell_at entries end ≡ Some y.cell
  last_cell = ap (option_map the_cell) last_is

  this_slot : slot_in cells x.cell ≡ Some k
  this_slot = linked.back x.cell k this_cell

  last_slot : slot_in cells y.cell ≡ Some end
  last_slot = linked.back y.cell end last_cell

  len : length entries' + 1 ≡ length entries
  len =
      let whole : length (swap_remove entries k r) + 1 ≡ length entries = simp (length-take, length-set) (omega arith) in
      ap (λ (es : List Entry). length es + 1) items ∙ whole

  -- the last one in place of the one that leaves
  moved : ℕ → Option Entry
  moved i = if nat_eq i k then Some y else slice_get entries i

  gets : (i : ℕ) → slice_get entries' i ≡ (if nat_eq i end then None else moved i)
  unfolding moved
  gets i =
      split_at i end (λ same. slice_get_past entries' i (omega (arith, len)))
      (λ other.
      elim (cases_lt i end) [
        | inl below ↦
            ap (λ (es : List Entry). slice_get es i) items ∙ swap_get entries k r i within
            ∙ cond-false (nat_le end i) None (if nat_eq i k then slice_get entries end else slice_get entries i) (lt-leb end i below)
            ∙ ap (λ (o : Option Entry). if nat_eq i k then o else slice_get entries i) last_is
        | inr past ↦
            slice_get_past entries' i (omega (arith, len)) ∙ sym (slice_get_past entries i (omega arith))
            ∙ sym (cond-false (nat_eq i k) (Some y) (slice_get entries i) (ne_eqb i k (λ same. absurd (omega arith))))
      ])

  stays : (m : ℕ) → m ≢ end → m ≢ k → slice_get entries' m ≡ slice_get entries m
  unfolding moved
  stays m low other = put_away _ _ gets m low ∙ cond-false (nat_eq m k) (Some y) (slice_get entries m) (ne_eqb m k other)

  cells_moved : (i : ℕ) → option_map the_cell (moved i) ≡ (if nat_eq i k then Some y.cell else cell_at entries i)
  unfolding moved
  cells_moved i = if_then (option_map the_cell) (nat_eq i k) (Some y) (slice_get entries i)

  cells_are : (i : ℕ) → cell_at entries' i ≡ (if nat_eq i end then None else option_map the_cell (moved i))
  cells_are i = ap (option_map the_cell) (gets i) ∙ if_then (option_map the_cell) (nat_eq i end) None (moved i)

  kept_same : (i : ℕ) → i ≢ x.cell → i ≢ y.cell → (o : Option ℕ) → slot_in cells i ≡ o → entry_of entries' o ≡ entry_of entries o
  kept_same i other apart None h = refl
  kept_same i other apart (Some m) h =
      let at : cell_at entries m ≡ Some i = linked.forth i m h in
      stays m (λ same. apart (same_Some i y.cell (sym at ∙ ap (cell_at entries) same ∙ last_cell)))
      (λ same. other (same_Some i x.cell (sym at ∙ ap (cell_at entries) same ∙ this_cell)))

  moved_here : x.cell ≢ y.cell → slice_get entries' k ≡ Some y
  unfolding moved
  moved_here apart =
      put_away _ _ gets k (λ same. apart (same_Some x.cell y.cell (sym this_cell ∙ ap (cell_at entries) same ∙ last_cell)))
      ∙ cond-true (nat_eq k k) (Some y) (slice_get entries k) (eq-eqb k k refl)

  entries_less : (i : ℕ) → entry_in cells' entries' i ≡ (if nat_eq i x.cell then None else entry_in cells entries i)
  entries_less i =
      split_at i x.cell (λ gone. ap (entry_of entries') (put_here _ _ slots i gone))
      (λ other. ap (entry_of entries') (put_away _ _ slots i other) ∙
      elim (cases_eq i y.cell) [
        | inl same ↦
            ap (entry_of entries') (put_here _ _ mids i same) ∙ moved_here (λ is. other (same ∙ sym is))
            ∙ sym (ap (entry_of entries) (ap (slot_in cells) same ∙ last_slot) ∙ last_is)
        | inr apart ↦ ap (entry_of entries') (put_away _ _ mids i apart) ∙ kept_same i other apart (slot_in cells i) refl
      ])

  mid_some : is_some (slot_in mid x.cell) ≡ true
  mid_some =
      elim (cases_eq x.cell y.cell) [
        | inl same ↦ ap (λ (o : Option ℕ). is_some o) (put_here _ _ mids x.cell same)
        | inr other ↦ ap (λ (o : Option ℕ). is_some o) (put_away _ _ mids x.cell other ∙ this_slot)
      ]

  -- each entry that is there was there before
  among : (m : ℕ) (e : Entry) → slice_get entries' m ≡ Some e → (o : ℕ) × (slice_get entries o ≡ Some e)
  unfolding moved
  among m e h =
      elim (cases_eq m end) [
        | inl same ↦ absurd (none-some e (sym (put_here _ _ gets m same) ∙ h))
        | inr low ↦
            elim (cases_eq m k) [
              | inl here ↦
                  (end, last_is ∙ sym (cond-true (nat_eq m k) (Some y) (slice_get entries m) (eq-eqb m k here)) ∙ sym (put_away _ _ gets m low) ∙ h)
              | inr other ↦ (m, sym (stays m low other) ∙ h)
            ]
      ]

  pub left : Left cells cells' entries entries' x.cell k
  left = record {
    linked = record {
      forth =
          leads_less (slot_in cells) (slot_in mid) (slot_in cells') (cell_at entries) (λ i. option_map the_cell (moved i)) (cell_at entries')
          x.cell k y.cell end mids slots cells_moved cells_are this_cell last_cell linked.forth;
      back = λ i m. leads_less (cell_at entries) (λ i. option_map the_cell (moved i)) (cell_at entries') (slot_in cells) (slot_in mid)
          (slot_in cells') end y.cell k x.cell cells_moved cells_are mids slots last_slot this_slot (λ a b. linked.back b a) m i;
      count =
          let one : one_if (is_some (slot_in mid x.cell)) ≡ 1 = ap one_if mid_some in
          let also : one_if (is_some (slot_in cells y.cell)) ≡ 1 = ap (λ (o : Option ℕ). one_if (is_some o)) last_slot in
          let old : count_by is_listed cells ≡ length entries = linked.count in
          omega (arith, len);
    };
    kept = entries_less;
    front = λ m below. stays m (λ same. absurd (omega arith)) (λ same. absurd (omega arith));
    seats = λ m e h. let old = among m e h in (old.0, e, old.1, refl);
  }
