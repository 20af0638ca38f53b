-- What a DSB leaves of each place that it visits.
use Rattle.bbm_place_map.proofs.Common.{◌≡◌, ℕ, Bool, true, false, List, Some, None, Option, ap, sym, subst, ◌∙◌}
use Rattle.bbm_place_map.proofs.Common.{Does, HoldsFor, Rests, loses, Contains, none-some, entry_of_cell, marks_of, at_index, cell_by}
use Rattle.bbm_place_map.proofs.Common.{arith, count_by-le-length, is_listed, length, ◌≤◌, ◌*◌}
use Rattle.bbm_place_map.proofs.Common.{Entries, Entry, Barrier, Effect, Complete, Publish, IsSound}
use Rattle.bbm_place_map.proofs.Common.{Marks, Work, WorkList, Vec, Global}
use Rattle.bbm_place_map.proofs.Common.{is_clean, PeMask, ◌⊎◌, ◌≢◌, either, IsTold, Stays, ◌<◌}
use Rattle.bbm_place_map.specs.Dsbs.{HasEffect, HoldOpen, IsSettled, loses_at}
use Rattle.bbm_place_map.specs.Works.{Listed}
use Rattle.bbm_place_map.proofs.Doing.{does_none}
use Rattle.bbm_place_map.proofs.Held.{by_cells, entry_by}
use Rattle.bbm_place_map.proofs.Knowing.{quiet_to, stays_by, told_to}
use Rattle.bbm_place_map.proofs.Listing.{listed_completed, listed_published, quiet_of, told_of}
use Rattle.bbm_place_map.proofs.Reaching.{at_each}
use Rattle.bbm_place_map.proofs.Seats.{entry_lost, seat_of}

-- each cell is visited, and so each place
module _ (by : Barrier) {parts : List ℕ} {old new : Entries} (sound : IsSound parts old) (sound' : IsSound parts new) where
  pub visited_each : ((c : ℕ) → Does by.effect by (entry_of_cell old c) (entry_of_cell new c)) → (j : ℕ)
      → Does by.effect by (entry_by old.list.items j) (entry_by new.list.items j)
  visited_each each j =
      by_cells sound sound' (Does by.effect by) j
      (at_each (Does by.effect by) None (entry_of_cell old) (entry_of_cell new) (does_none by.effect by) each (cell_by parts j))

  pub visited_lost : (page : ℕ) → (c : ℕ) × (loses_at old new c ≡ Some page)
      → (j : ℕ) × (loses (marks_of (entry_by old.list.items j)) (marks_of (entry_by new.list.items j)) ≡ Some page)
  visited_lost page w =
      let e = entry_lost (entry_of_cell old w.0) (marks_of (entry_of_cell new w.0)) page w.1 in
      let s = seat_of old.linked w.0 e.0 e.1 in
      let here : cell_by parts e.0.index ≡ Some w.0 = sound.seated s.0 e.0 s.2 ∙ ap (λ (n : ℕ). Some n) s.3 in (
        e.0.index,
        by_cells sound sound' (λ o p. loses (marks_of o) (marks_of p) ≡ Some page) e.0.index
            (ap (λ (o : Option ℕ). loses (marks_of (at_index None (entry_of_cell old) o)) (marks_of (at_index None (entry_of_cell new) o))) here ∙ w.1),
      )

  pub visited_told : (pages : List ℕ) → ((c page : ℕ) → loses_at old new c ≡ Some page → Contains pages page) → (j page : ℕ)
      → loses (marks_of (entry_by old.list.items j)) (marks_of (entry_by new.list.items j)) ≡ Some page → Contains pages page
  visited_told pages told j page =
      let P : Option Entry → Option Entry → Type 0 = λ o p. loses (marks_of o) (marks_of p) ≡ Some page → Contains pages page in
      by_cells sound sound' P j
      (at_each P None (entry_of_cell old) (entry_of_cell new) (λ h. absurd (none-some page h)) (λ c. told c page) (cell_by parts j))

-- there are no more entries than places
pub entries_few : {parts : List ℕ} {entries : Entries} → IsSound parts entries → length entries.list.items ≤ 512 * length parts
entries_few {parts} {entries} sound =
    omega (arith, sound.some, entries.linked.count, count_by-le-length is_listed parts, count_by-le-length is_listed entries.cells.items)

-- what the lists know before, and after
module _ (w : Work) (by : Barrier) (old : Entries) (number : w.pes ≡ by.n) (listed : Listed w old.cells.items old.list.items) where
  pub open_published : (heard : PeMask) → by.effect ≡ Publish heard → HasEffect by.effect by
      → HoldOpen (HoldsFor w.unpublished.items by.issuer) by old.cells.items old.list.items
  open_published heard is has wide j =
      let P : ℕ → Type 0 = λ n. (marks : Marks) → by.issuer < n → marks_of (entry_of_cell old j) ≡ Some marks
      → HoldsFor w.unpublished.items by.issuer wide j ⊎ IsTold wide n by.issuer marks in
      let below : by.issuer < by.n = (subst (λ (x : Effect). HasEffect x by) is has).1 in
      subst (λ (x : Effect). HoldsFor w.unpublished.items by.issuer wide j ⊎ Rests x wide by.n by.issuer (entry_of_cell old j)) (sym is)
      (told_to wide by.n by.issuer heard (HoldsFor w.unpublished.items by.issuer wide j) (entry_of_cell old j)
      (λ marks at. subst P number (λ m below'. told_of listed wide by.issuer j m below') marks below at))

  pub open_completed : by.effect ≡ Complete → HoldOpen (HoldsFor w.waiting.items by.issuer) by old.cells.items old.list.items
  open_completed is wide j =
      subst (λ (x : Effect). HoldsFor w.waiting.items by.issuer wide j ⊎ Rests x wide by.n by.issuer (entry_of_cell old j)) (sym is)
      (either (quiet_of listed wide by.issuer j) (λ holds. holds) (quiet_to wide by.n by.issuer (entry_of_cell old j)))

  pub settled_published : (heard : PeMask) → by.effect ≡ Publish heard → IsSettled by old.cells.items old.list.items
  settled_published heard is j = subst (λ (x : Effect). Stays x by.n (entry_of_cell old j)) (sym is) tt

  pub settled_completed : by.effect ≡ Complete → w.settled ≡ true → IsSettled by old.cells.items old.list.items
  settled_completed is settled j =
      let P : ℕ → Type 0 = λ n. (marks : Marks) → marks_of (entry_of_cell old j) ≡ Some marks → is_clean n marks ≡ false in
      subst (λ (x : Effect). Stays x by.n (entry_of_cell old j)) (sym is) (stays_by by.n (entry_of_cell old j) (subst P number (listed.settled settled j)))

  module _ (new : Entries) (lists : Vec WorkList Global) (visited : (j : ℕ) → Does by.effect by (entry_of_cell old j) (entry_of_cell new j))
      (known : HoldOpen (HoldsFor lists.items by.issuer) by new.cells.items new.list.items) where
    known_at : (effect : Effect) → by.effect ≡ effect → (wide : Bool) (j : ℕ)
        → HoldsFor lists.items by.issuer wide j ⊎ Rests effect wide by.n by.issuer (entry_of_cell new j)
    known_at effect is wide j =
        subst (λ (x : Effect). HoldsFor lists.items by.issuer wide j ⊎ Rests x wide by.n by.issuer (entry_of_cell new j)) is (known wide j)

    each_at : (effect : Effect) → by.effect ≡ effect → (j : ℕ) → Does effect by (entry_of_cell old j) (entry_of_cell new j)
    each_at effect is j = subst (λ (x : Effect). Does x by (entry_of_cell old j) (entry_of_cell new j)) is (visited j)

    pub published_listed : (heard : PeMask) → by.effect ≡ Publish heard
        → ((wide : Bool) (q j : ℕ) → q ≢ by.issuer → HoldsFor w.unpublished.items q wide j → HoldsFor lists.items q wide j)
        → Listed (record w { unpublished = lists }) new.cells.items new.list.items
    published_listed heard is others =
        listed_published w lists by heard old.cells.items new.cells.items old.list.items new.list.items number (each_at (Publish heard) is)
        (known_at (Publish heard) is) others listed

    pub completed_listed : by.effect ≡ Complete
        → ((wide : Bool) (q j : ℕ) → q ≢ by.issuer → HoldsFor w.waiting.items q wide j → HoldsFor lists.items q wide j)
        → Listed (record w { settled = true; waiting = lists }) new.cells.items new.list.items
    completed_listed is others =
        listed_completed w lists by old.cells.items new.cells.items old.list.items new.list.items number (each_at Complete is)
        (known_at Complete is) others listed
