-- The lists of work after each call.
use Rattle.bbm_place_map.proofs.Common.{◌≡◌, ◌≢◌, ℕ, ◌≤◌, ◌<◌, ◌⊎◌, Bool, true, false, nat_eq, List, [], length, Option}
use Rattle.bbm_place_map.proofs.Common.{Some, None, refl, ap, sym, subst, ◌∙◌, inl, inr, slice_get, if◌then◌else◌}
use Rattle.bbm_place_map.proofs.Common.{cases_eq, ne_eqb, same_Some, none-some, SmallVec, fun_ext, every_pe, Marks}
use Rattle.bbm_place_map.proofs.Common.{Pends, slot_in, Advances, Publishes, Completes, entry_of, entry_in, marks_of}
use Rattle.bbm_place_map.proofs.Common.{pends_of, pends_in, Keeps, marks_in, pends_for, Linked, HoldsFor, IsQuiet}
use Rattle.bbm_place_map.proofs.Common.{IsTold, Waits, is_clean, Entry, Barrier, Issuing, Pending, WorkList, Vec}
use Rattle.bbm_place_map.proofs.Common.{Global, PeMask, Publish, Complete, Rests, waits, pe_in, Work, nil_from_length}
use Rattle.bbm_place_map.proofs.Common.{put_here, put_away, either}
use Rattle.bbm_place_map.proofs.Common.{ClearsCells, Entries, KeepsOthers, entry_of_cell, position}
use Rattle.bbm_place_map.specs.Parts.{AddsCells}
use Rattle.bbm_place_map.specs.PlaceNotes.{OnlyNotes}
use Rattle.bbm_place_map.specs.Works.{IsToldAsBefore, GivesUp, Listed}
use Rattle.bbm_place_map.proofs.Advancing.{of_cell, by_entries, column_kept, one_advances}
use Rattle.bbm_place_map.proofs.Idle.{idle_from, quiet_from, none_kept}
use Rattle.bbm_place_map.proofs.Knowing.{known_or, or_known, quiet_of_rest, told_from}
use Rattle.bbm_lemmas.proofs.Every.{every_none}
use Rattle.bbm_place_map.proofs.Resting.{completes_unclean, quiet_others, told_completed}
use Rattle.bbm_place_map.proofs.Telling.{told_no_writer, told_after_write, told_kept}
use Rattle.bbm_place_map.proofs.Seats.{marked, seat_of}

pub told_of : {w : Work} {cells : List ℕ} {entries : List Entry} → Listed w cells entries → (wide : Bool) (q j : ℕ) (marks : Marks) → q < w.pes
    → marks_in cells entries j ≡ Some marks → HoldsFor w.unpublished.items q wide j ⊎ IsTold wide w.pes q marks
told_of {w} listed wide q j marks below is =
    known_or w.unpublished.items q wide j (IsTold wide w.pes q marks) (listed.told wide q j marks below is)

pub quiet_of : {w : Work} {cells : List ℕ} {entries : List Entry} → Listed w cells entries → (wide : Bool) (q j : ℕ)
    → HoldsFor w.waiting.items q wide j ⊎ IsQuiet wide (pends_for cells entries q j)
quiet_of {w} {cells} {entries} listed wide q j =
    known_or w.waiting.items q wide j (IsQuiet wide (pends_for cells entries q j)) (listed.idle wide q j)

-- what the lists of a log with n PEs have, or is told, is quiet, or is unclean
listed_by : {w : Work} {cells : List ℕ} {entries : List Entry} (n : ℕ) → w.pes ≡ n → 1 ≤ n
    → ((wide : Bool) (q j : ℕ) (marks : Marks) → q < n → marks_in cells entries j ≡ Some marks
    → HoldsFor w.unpublished.items q wide j ⊎ IsTold wide n q marks)
    → ((wide : Bool) (q j : ℕ) → HoldsFor w.waiting.items q wide j ⊎ IsQuiet wide (pends_for cells entries q j))
    → (w.settled ≡ true → (j : ℕ) (marks : Marks) → marks_in cells entries j ≡ Some marks → is_clean n marks ≡ false)
    → Listed w cells entries
listed_by {w} {cells} {entries} n pes some told quiet settled =
    let P : ℕ → Type 0 = λ m. Listed (record w { pes = m }) cells entries in
    subst P (sym pes) (record {
      some = some;
      told = λ wide q j marks below is. or_known w.unpublished.items q wide j (IsTold wide n q marks) (told wide q j marks below is);
      idle = λ wide q j. or_known w.waiting.items q wide j (IsQuiet wide (pends_for cells entries q j)) (quiet wide q j);
      settled = settled;
    })

no_marks : (entries : List Entry) → entries ≡ [] → (s : Option ℕ) (marks : Marks) → marks_of (entry_of entries s) ≡ Some marks → ⊥
no_marks entries none None marks is = none-some marks is
no_marks entries none (Some k) marks is = none-some marks (sym (ap (λ (es : List Entry). marks_of (slice_get es k)) none) ∙ is)

-- where nothing is broken there is nothing to do
pub listed_none : (w : Work) (cells : List ℕ) (entries : List Entry) (n : ℕ) → w.pes ≡ n → 1 ≤ n → entries ≡ []
    → Listed w cells entries
listed_none w cells entries n pes some none =
    listed_by n pes some
    (λ wide q j marks below is. absurd (no_marks entries none (slot_in cells j) marks is))
    (λ wide q j. inr (quiet_from wide (pends_for cells entries q j) (none_kept q cells entries none (Some j))))
    (λ settled j marks is. absurd (no_marks entries none (slot_in cells j) marks is))

-- a log with so many PEs begins
pub listed_begun : (w w' : Work) (n broken : ℕ) (cells : List ℕ) (entries : List Entry) → 1 ≤ n → w'.pes ≡ n → broken ≡ length entries
    → (w' ≡ w) ⊎ ((broken ≡ 0) ⊎ GivesUp w') → Listed w cells entries → Listed w' cells entries
listed_begun w w' n broken cells entries some pes number kept listed =
    elim kept [
      | inl same ↦ subst (λ (x : Work). Listed x cells entries) (sym same) listed
      | inr changed ↦
          elim changed [
            | inl none ↦ listed_none w' cells entries n pes some (nil_from_length entries (sym number ∙ none))
            | inr up ↦
                listed_by n pes some (λ wide q j marks below is. inl (up.0 wide q j)) (λ wide q j. inl (up.1 wide q j))
                (λ settled j marks is. absurd (up.2 settled))
          ]
    ]

-- where no entry changes but some leave, and lists have no less
pub listed_fewer : (w : Work) (lists lists' : Vec WorkList Global) (cells cells' : List ℕ) (entries entries' : List Entry)
    → ((wide : Bool) (q j : ℕ) → HoldsFor w.unpublished.items q wide j → HoldsFor lists.items q wide j)
    → ((wide : Bool) (q j : ℕ) → HoldsFor w.waiting.items q wide j → HoldsFor lists'.items q wide j)
    → ((j : ℕ) → (entry_in cells' entries' j ≡ None) ⊎ (entry_in cells' entries' j ≡ entry_in cells entries j))
    → Listed w cells entries → Listed (record w { unpublished = lists; waiting = lists' }) cells' entries'
listed_fewer w lists lists' cells cells' entries entries' unpublished waiting stays listed =
    listed_by w.pes refl listed.some
    (λ wide q j marks below is. either (told_of listed wide q j marks below (were (stays j) is)) (unpublished wide q j) (λ told. told))
    (λ wide q j.
    elim (stays j) [
      | inl gone ↦ inr (quiet_from wide (pends_for cells' entries' q j) (idle_from (pends_for cells' entries' q j) (ap (pends_of q) gone)))
      | inr same ↦ either (quiet_of listed wide q j) (waiting wide q j) (subst (λ (o : Option Entry). IsQuiet wide (pends_of q o)) (sym same))
    ])
    (λ is j marks at. listed.settled is j marks (were (stays j) at))
  where
    were : {o p : Option Entry} {marks : Marks} → (p ≡ None) ⊎ (p ≡ o) → marks_of p ≡ Some marks → marks_of o ≡ Some marks
    were {o} {p} {marks} (inl gone) is = absurd (none-some marks (sym (ap marks_of gone) ∙ is))
    were (inr same) is = sym (ap marks_of same) ∙ is

-- a place is written that is broken after
pub listed_broken : (w w' : Work) (cells cells' : List ℕ) (entries entries' : List Entry) (j : ℕ) (marks : Marks) (before : Option Marks)
    → w'.pes ≡ w.pes → before ≡ marks_in cells entries j
    → ((wide : Bool) (q : ℕ) → q < w.pes
    → HoldsFor w'.unpublished.items q wide j ⊎ ((pe_in marks.writers q ≡ false) ⊎ IsToldAsBefore before marks q))
    → ((wide : Bool) (q i : ℕ) → HoldsFor w.unpublished.items q wide i → HoldsFor w'.unpublished.items q wide i)
    → w'.waiting.items ≡ w.waiting.items → (w'.settled ≡ true → w.settled ≡ true)
    → (w'.settled ≡ true → is_clean w.pes marks ≡ false)
    → ((i : ℕ) → marks_in cells' entries' i ≡ (if nat_eq i j then Some marks else marks_in cells entries i))
    → ((q i : ℕ) → pends_for cells' entries' q i ≡ pends_for cells entries q i)
    → Listed w cells entries → Listed w' cells' entries'
listed_broken w w' cells cells' entries entries' j marks before pes was told kept waiting settled unclean marks_are pends_are listed =
    listed_by w.pes pes listed.some
    (λ wide q i m below.
    at (λ x y. HoldsFor w'.unpublished.items q wide x ⊎ IsTold wide w.pes q y) (here wide q below)
    (λ x y is. either (told_of listed wide q x y below is) (kept wide q x) (λ old. old)) i m)
    (λ wide q i.
    either (quiet_of listed wide q i) (subst (λ (xs : List WorkList). HoldsFor xs q wide i) (sym waiting))
    (subst (λ (x : Pends). IsQuiet wide x) (sym (pends_are q i))))
    (λ is. at (λ x y. is_clean w.pes y ≡ false) (unclean is) (listed.settled (settled is)))
  where
    here : (wide : Bool) (q : ℕ) → q < w.pes → HoldsFor w'.unpublished.items q wide j ⊎ IsTold wide w.pes q marks
    here wide q below =
        elim (told wide q below) [
          | inl holds ↦ inl holds
          | inr rest ↦
              elim rest [
                | inl none ↦ inr (told_no_writer wide w.pes q marks none)
                | inr old ↦
                    either (told_of listed wide q j old.0 below (sym was ∙ old.1)) (kept wide q j)
                    (told_after_write wide w.pes q old.0 marks old.2 old.3)
              ]
        ]

    at : (P : ℕ → Marks → Type 0) → P j marks → ((i : ℕ) (m : Marks) → marks_in cells entries i ≡ Some m → P i m)
        → (i : ℕ) (m : Marks) → marks_in cells' entries' i ≡ Some m → P i m
    at P now other i m is =
        elim (cases_eq i j) [
          | inl same ↦
              subst (λ (x : ℕ). P x m) (sym same) (subst (P j) (same_Some marks m (sym (put_here _ _ marks_are i same) ∙ is)) now)
          | inr away ↦ other i m (sym (put_away _ _ marks_are i away) ∙ is)
        ]

-- a place breaks by a write of one PE
pub listed_fresh : (w w' : Work) (cells cells' : List ℕ) (entries entries' : List Entry) (j pe : ℕ) (marks : Marks)
    → w'.pes ≡ w.pes → marks_in cells entries j ≡ None
    → ((p : ℕ) → pe_in marks.writers p ≡ nat_eq p pe) → ((p : ℕ) → pe_in marks.clean p ≡ false)
    → ((wide : Bool) → HoldsFor w'.unpublished.items pe wide j)
    → ((wide : Bool) (q i : ℕ) → HoldsFor w.unpublished.items q wide i → HoldsFor w'.unpublished.items q wide i)
    → w'.waiting.items ≡ w.waiting.items → w'.settled ≡ w.settled
    → ((i : ℕ) → marks_in cells' entries' i ≡ (if nat_eq i j then Some marks else marks_in cells entries i))
    → ((q i : ℕ) → pends_for cells' entries' q i ≡ pends_for cells entries q i)
    → Listed w cells entries → Listed w' cells' entries'
listed_fresh w w' cells cells' entries entries' j pe marks pes none writers clean there kept waiting settled marks_are pends_are listed =
    listed_broken w w' cells cells' entries entries' j marks None pes (sym none)
    (λ wide q below.
    elim (cases_eq q pe) [
      | inl same ↦ let P : ℕ → Type 0 = λ x. HoldsFor w'.unpublished.items x wide j in inl (subst P (sym same) (there wide))
      | inr other ↦ inr (inl (writers q ∙ ne_eqb q pe other))
    ])
    kept waiting (λ is. sym settled ∙ is) (λ is. every_none w.pes (λ p. pe_in marks.clean p) listed.some clean) marks_are pends_are listed

-- a DSB publishes
module _ (w : Work) (lists : Vec WorkList Global) (by : Barrier) (heard : PeMask) (cells cells' : List ℕ) (entries entries' : List Entry)
    (number : w.pes ≡ by.n) (each : (j : ℕ) → Advances (Publishes by) (entry_in cells entries j) (entry_in cells' entries' j))
    (known : (wide : Bool) (j : ℕ) → HoldsFor lists.items by.issuer wide j
    ⊎ Rests (Publish heard) wide by.n by.issuer (entry_in cells' entries' j))
    (others : (wide : Bool) (q j : ℕ) → q ≢ by.issuer → HoldsFor w.unpublished.items q wide j → HoldsFor lists.items q wide j)
    (listed : Listed w cells entries) where
  by_cell : (P : Option Entry → Option Entry → Type 0) → P None None → ((e f : Entry) → Publishes by e f → P (Some e) (Some f))
      → (j : ℕ) → P (entry_in cells entries j) (entry_in cells' entries' j)
  by_cell P none some j =
      by_entries (Publishes by) P none (λ e f seated. some e f) (entry_in cells entries j) (entry_in cells' entries' j) (each j)

  told_then : (wide : Bool) (q j : ℕ) (marks : Marks) → q < w.pes → marks_in cells' entries' j ≡ Some marks
      → HoldsFor lists.items q wide j ⊎ IsTold wide w.pes q marks
  told_then wide q j marks below is =
      elim (cases_eq q by.issuer) [
        | inl same ↦
            subst (λ (n : ℕ). HoldsFor lists.items q wide j ⊎ IsTold wide n q marks) (sym number)
            (subst (λ (x : ℕ). HoldsFor lists.items x wide j ⊎ IsTold wide by.n x marks) (sym same)
            (told_from wide by.n by.issuer heard (HoldsFor lists.items by.issuer wide j) (entry_in cells' entries' j) (known wide j) marks is))
        | inr other ↦
            by_cell (λ o p. ((m : Marks) → marks_of o ≡ Some m → HoldsFor w.unpublished.items q wide j ⊎ IsTold wide w.pes q m)
            → (m : Marks) → marks_of p ≡ Some m → HoldsFor lists.items q wide j ⊎ IsTold wide w.pes q m)
            (λ old m none. absurd (none-some m none))
            (λ e f h old m at. subst (λ (x : Marks). HoldsFor lists.items q wide j ⊎ IsTold wide w.pes q x) (same_Some f.marks m at)
            (either (old e.marks refl) (others wide q j other) (told_kept by wide w.pes q e f h)))
            j (λ m. told_of listed wide q j m below) marks is
      ]

  pub listed_published : Listed (record w { unpublished = lists }) cells' entries'
  listed_published =
      listed_by w.pes refl listed.some told_then
      (λ wide q j. subst (λ (x : Pends). HoldsFor w.waiting.items q wide j ⊎ IsQuiet wide x)
      (sym (by_cell (λ o p. pends_of q p ≡ pends_of q o) refl (λ e f h. ap (λ (v : SmallVec Pending). pends_in v.items q) h.0) j))
      (quiet_of listed wide q j))
      (λ is j. by_cell (λ o p. ((m : Marks) → marks_of o ≡ Some m → is_clean w.pes m ≡ false)
      → (m : Marks) → marks_of p ≡ Some m → is_clean w.pes m ≡ false)
      (λ old. old)
      (λ e f h old m at. ap (is_clean w.pes) (sym (same_Some f.marks m at)) ∙ ap (every_pe w.pes) (fun_ext h.1.clean) ∙ old e.marks refl)
      j (listed.settled is j))

-- a DSB answers
pub listed_completed : (w : Work) (lists : Vec WorkList Global) (by : Barrier) (cells cells' : List ℕ) (entries entries' : List Entry) → w.pes ≡ by.n
    → ((j : ℕ) → Completes by (entry_in cells entries j) (entry_in cells' entries' j))
    → ((wide : Bool) (j : ℕ) → HoldsFor lists.items by.issuer wide j ⊎ Rests Complete wide by.n by.issuer (entry_in cells' entries' j))
    → ((wide : Bool) (q j : ℕ) → q ≢ by.issuer → HoldsFor w.waiting.items q wide j → HoldsFor lists.items q wide j)
    → Listed w cells entries → Listed (record w { settled = true; waiting = lists }) cells' entries'
listed_completed w lists by cells cells' entries entries' number each known others listed =
    listed_by w.pes refl listed.some
    (λ wide q j marks below. told_completed by wide w.pes q (HoldsFor w.unpublished.items q wide j) (entry_in cells entries j)
    (entry_in cells' entries' j) (each j) (λ m. told_of listed wide q j m below) marks)
    (λ wide q j.
    elim (cases_eq q by.issuer) [
      | inl same ↦ subst (λ (x : ℕ). HoldsFor lists.items x wide j ⊎ IsQuiet wide (pends_for cells' entries' x j)) (sym same)
          (either (known wide j) (λ holds. holds) (quiet_of_rest wide by.n by.issuer (entry_in cells' entries' j)))
      | inr other ↦
          either (quiet_of listed wide q j) (others wide q j other)
          (quiet_others by wide q other (entry_in cells entries j) (entry_in cells' entries' j) (each j))
    ])
    (λ is j marks at.
    let e = marked (entry_in cells' entries' j) marks at in
    subst (λ (n : ℕ). is_clean n marks ≡ false) (sym number) (ap (is_clean by.n) (sym e.2)
    ∙ completes_unclean by (entry_in cells entries j) e.0 (subst (λ (o : Option Entry). Completes by (entry_in cells entries j) o) e.1 (each j))))

-- what waits changes
listed_changed : (w : Work) (lists : Vec WorkList Global) (cells : List ℕ) (entries entries' : List Entry)
    → ((wide : Bool) (q j : ℕ) → HoldsFor w.waiting.items q wide j → HoldsFor lists.items q wide j)
    → ((j : ℕ) → marks_in cells entries' j ≡ marks_in cells entries j)
    → ((wide : Bool) (q j : ℕ)
    → HoldsFor lists.items q wide j ⊎ (IsQuiet wide (pends_for cells entries q j) → IsQuiet wide (pends_for cells entries' q j)))
    → Listed w cells entries → Listed (record w { waiting = lists }) cells entries'
listed_changed w lists cells entries entries' kept marks_are waits_are listed =
    listed_by w.pes refl listed.some
    (λ wide q j marks below is. told_of listed wide q j marks below (sym (marks_are j) ∙ is))
    (λ wide q j.
    elim (waits_are wide q j) [
      | inl holds ↦ inl holds
      | inr still ↦ either (quiet_of listed wide q j) (kept wide q j) still
    ])
    (λ is j marks at. listed.settled is j marks (sym (marks_are j) ∙ at))

-- what is kept of an entry is kept of a cell
cell_kept : {X : Type 0} (c : Option Entry → X) (R : Entry → Entry → Type 0) → ((e f : Entry) → R e f → c (Some f) ≡ c (Some e))
    → (cells : List ℕ) (entries entries' : List Entry) → ((k : ℕ) → Advances R (slice_get entries k) (slice_get entries' k))
    → (j : ℕ) → c (entry_in cells entries' j) ≡ c (entry_in cells entries j)
cell_kept c R same cells entries entries' each j =
    column_kept c R (λ e f seated. same e f) (entry_in cells entries j) (entry_in cells entries' j) (of_cell R entries entries' each (slot_in cells j))

-- room for pendings is made
pub listed_roomed : (cells : List ℕ) (entries mid : List Entry) → ((k : ℕ) → Advances Keeps (slice_get entries k) (slice_get mid k))
    → (w : Work) → Listed w cells entries → Listed w cells mid
listed_roomed cells entries mid kept w listed =
    listed_changed w w.waiting cells entries mid (λ wide q j holds. holds)
    (cell_kept marks_of Keeps (λ e f h. ap (λ (m : Marks). Some m) h.0) cells entries mid kept)
    (λ wide q j. inr (subst (λ (x : Pends). IsQuiet wide x)
    (sym (cell_kept (pends_of q) Keeps (λ e f h. ap (λ (ps : List Pending). pends_in ps q) h.1) cells entries mid kept j)))) listed

-- a TLBI is noted
pub listed_noted : (cells : List ℕ) (mid new : List Entry) (by : Issuing) (w : Work) (lists : Vec WorkList Global)
    → Linked cells mid → ((k : ℕ) → Advances (KeepsOthers by.issuer) (slice_get mid k) (slice_get new k))
    → ((k : ℕ) → Advances (Waits lists.items by.issuer) (slice_get mid k) (slice_get new k))
    → ((wide : Bool) (q j : ℕ) → HoldsFor w.waiting.items q wide j → HoldsFor lists.items q wide j)
    → Listed w cells mid → Listed (record w { waiting = lists }) cells new
listed_noted cells mid new by w lists linked noted waits grown listed =
    listed_changed w lists cells mid new grown
    (cell_kept marks_of (KeepsOthers by.issuer) (λ e f h. ap (λ (m : Marks). Some m) h.0) cells mid new noted)
    (λ wide q j.
    elim (cases_eq q by.issuer) [
      | inl same ↦
          let P : ℕ → Type 0 = λ x. HoldsFor lists.items x wide j
          ⊎ (IsQuiet wide (pends_for cells mid x j) → IsQuiet wide (pends_for cells new x j)) in
          subst P (sym same)
          (by_entries (Waits lists.items by.issuer) (λ o p. ((e : Entry) → o ≡ Some e → e.cell ≡ j)
          → HoldsFor lists.items by.issuer wide j ⊎ (IsQuiet wide (pends_of by.issuer o) → IsQuiet wide (pends_of by.issuer p)))
          (λ at. inr (λ quiet. quiet))
          (λ e f seated h at. either (h wide) (subst (HoldsFor lists.items by.issuer wide) (at e refl)) (λ still. still))
          (entry_in cells mid j) (entry_in cells new j) (of_cell (Waits lists.items by.issuer) mid new waits (slot_in cells j))
          (λ e is. (seat_of linked j e is).3))
      | inr other ↦
          inr (subst (λ (x : Pends). IsQuiet wide x) (sym (cell_kept (pends_of q) (KeepsOthers by.issuer) (λ e f h. h.1 q other) cells mid new noted j)))
    ])
    listed

-- an entry of a page that is cleared is gone, and any other one stays
gone_or_same : (gone : Bool) (o p : Option Entry) → p ≡ (if gone then None else o) → (p ≡ None) ⊎ (p ≡ o)
gone_or_same true o p is = inl is
gone_or_same false o p is = inr is

-- some cells were cleared
pub listed_cleared : {these : ℕ → Bool} {old new : Entries} {w : Work} → ClearsCells these old new
    → Listed w old.cells.items old.list.items → Listed w new.cells.items new.list.items
listed_cleared {these} {old} {new} {w} e =
    listed_fewer w w.unpublished w.waiting old.cells.items new.cells.items old.list.items new.list.items
    (λ wide q j holds. holds) (λ wide q j holds. holds)
    (λ j. gone_or_same (these j) (entry_of_cell old j) (entry_of_cell new j) (e.entries j))

-- cells were added
pub listed_added : {old new : Entries} {w : Work} → AddsCells old new → Listed w old.cells.items old.list.items
    → Listed w new.cells.items new.list.items
listed_added {old} {new} {w} e =
    listed_fewer w w.unpublished w.waiting old.cells.items new.cells.items old.list.items new.list.items
    (λ wide q j holds. holds) (λ wide q j holds. holds)
    (λ j. inr (ap (λ (v : Vec Entry Global). entry_in new.cells.items v.items j) e.list ∙ ap (entry_of old.list.items) (e.slots j)))

-- what is left to do where room was made at an entry, or a TLBI noted
module _ (old new : Entries) (k : ℕ) (e f : Entry) (was : slice_get old.list.items k ≡ Some e) (seated : position f ≡ position e)
    (gets : (i : ℕ) → slice_get new.list.items i ≡ (if nat_eq i k then Some f else slice_get old.list.items i)) (same : new.cells ≡ old.cells) where
  pub listed_made : Keeps e f → (w : Work) → Listed w old.cells.items old.list.items → Listed w new.cells.items new.list.items
  listed_made kept w listed =
      let L : Vec ℕ Global → Type 0 = λ v. Listed w v.items new.list.items in
      subst L (sym same) (listed_roomed old.cells.items old.list.items new.list.items
      (one_advances (λ _. Keeps) old.list.items new.list.items k e f was seated kept gets (λ m x _ _. (refl, refl))) w listed)

  pub listed_after : (by : Issuing) (w : Work) (lists : Vec WorkList Global) → OnlyNotes old new w.waiting.items lists.items → KeepsOthers by.issuer e f
      → Waits lists.items by.issuer e f → Listed w old.cells.items old.list.items → Listed (record w { waiting = lists }) new.cells.items new.list.items
  listed_after by w lists rest others waits listed =
      let L : Vec ℕ Global → Type 0 = λ v. Listed (record w { waiting = lists }) v.items new.list.items in
      subst L (sym same) (listed_noted old.cells.items old.list.items new.list.items by w lists old.linked
      (one_advances (λ _. KeepsOthers by.issuer) old.list.items new.list.items k e f was seated others gets (λ m x _ _. (refl, λ q _. refl)))
      (one_advances (λ _. Waits lists.items by.issuer) old.list.items new.list.items k e f was seated waits gets (λ m x _ _ wide. inr (λ quiet. quiet)))
      rest.kept listed)
