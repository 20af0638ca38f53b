-- What a DSB finds and leaves: cells and entries, and the list of its PE.
-- Source: project's own choice.
use Rattle.std.specs.Prelude.{◌≡◌, ◌≢◌, ◌≤◌, ◌<◌, ◌⊎◌, ◌+◌, ℕ, Bool, true, false, Some, List}
use Rattle.std.specs.Prelude.{slice_get, length, not, ◌&&◌, Contains, Option, Vec, vec_capacity, vec_len}
use Rattle.std.specs.declared.alloc.Global.{Global}
use Rattle.bbm_barriers.specs.declared.Dsb.{Dsb}
use Rattle.bbm_barriers.specs.Options.{answers, publishes}
use Rattle.bbm_regimes.specs.PeMask.{pe_in}
use Rattle.bbm_regimes.specs.declared.pe.PeMask.{PeMask}
use Rattle.bbm_tlbi_scope.specs.declared.entry.Cover.{Cover}
use Rattle.bbm_entry_state.specs.Answered.{answered_at}
use Rattle.bbm_entry_state.specs.Points.{waits, waits_in}
use Rattle.bbm_entry_state.specs.declared.marks.Marks.{Marks}
use Rattle.bbm_entry_state.specs.declared.pending.Pend.{Pend}
use Rattle.bbm_entry_state.specs.declared.pending.Pends.{Pends}
use Rattle.bbm_place_map.specs.Each.{Does, loses, with_page}
use Rattle.bbm_place_map.specs.Entries.{cell_at, entry_in, marks_of, pend_in, pends_in, position_at}
use Rattle.bbm_place_map.specs.Parts.{entry_of_cell}
use Rattle.bbm_place_map.specs.Puts.{StillSound}
use Rattle.bbm_place_map.specs.Works.{Rests, Stays}
use Rattle.bbm_place_map.specs.declared.entries.Entries.{Entries}
use Rattle.bbm_place_map.specs.declared.entry.Entry.{Entry}
use Rattle.bbm_place_map.specs.declared.entry.Pending.{Pending}
use Rattle.bbm_place_map.specs.declared.orders.Barrier.{Barrier}
use Rattle.bbm_place_map.specs.declared.orders.Effect.{Effect}
use Rattle.bbm_place_map.specs.declared.orders.Effect.TheVariants.{Publish, Complete}

-- these are the PEs to which a DSB publishes
abbrev pub IsAudience : Barrier → PeMask → Type 0
IsAudience by heard = (p : ℕ) → pe_in heard p ≡ publishes by.dsb by.issuer by.n p

-- the PEs whose answer a DSB of the issuer is
abbrev pub AreAnswered : Dsb → Pends → Pend → Type 0
AreAnswered dsb pends done = (c : Cover) (p : ℕ) → waits_in done c p ≡ answered_at pends dsb c p

-- what waits on after it
abbrev pub WaitsOn : Dsb → Pends → Pends → Type 0
WaitsOn dsb old new = (b : Bool) (c : Cover) (p : ℕ) → waits new b c p ≡ (not (answers dsb b) && waits old b c p)

-- Where the flag is true those that wait for the answers of a lane are taken out of a list, and else none.
pub record Takes (lane : ℕ) (flag : Bool) (old new : List Pending) (taken : Pend) : Type 0 where
  pub done : (c : Cover) (p : ℕ) → waits_in taken c p ≡ (flag && waits_in (pend_in old lane) c p)
  pub left : (c : Cover) (p : ℕ) → waits_in (pend_in new lane) c p ≡ (not flag && waits_in (pend_in old lane) c p)
  pub others : (m : ℕ) → m ≢ lane → pend_in new m ≡ pend_in old m

-- Those whose answer a DSB of the issuer is are taken out of what waits for the answers of its TLBIs.
pub record TakesAnswered (dsb : Dsb) (issuer : ℕ) (old new : List Pending) (taken : Pend) : Type 0 where
  pub done : AreAnswered dsb (pends_in old issuer) taken
  pub left : WaitsOn dsb (pends_in old issuer) (pends_in new issuer)
  pub others : (q : ℕ) → q ≢ issuer → pends_in new q ≡ pends_in old q

-- it publishes to these PEs, and its issuer is one of those of the log
abbrev pub HasEffect : Effect → Barrier → Type 0
HasEffect (Publish heard) by = IsAudience by heard × (by.issuer < by.n)
HasEffect Complete by = Unit {0}

-- it publishes to its own PE, or answers the TLBIs that aren't broadcast
abbrev pub IsBusy : Effect → Barrier → Type 0
IsBusy (Publish heard) by = publishes by.dsb by.issuer by.n by.issuer ≡ true
IsBusy Complete by = answers by.dsb false ≡ true

-- these hold each cell at whose place a DSB of the issuer does this
abbrev pub HoldOpen : (Bool → ℕ → Type 0) → Barrier → List ℕ → List Entry → Type 0
HoldOpen held by cells entries =
    (wide : Bool) (j : ℕ) → held wide j ⊎ Rests by.effect wide by.n by.issuer (entry_in cells entries j)

-- no place waits to leave
abbrev pub IsSettled : Barrier → List ℕ → List Entry → Type 0
IsSettled by cells entries = (j : ℕ) → Stays by.effect by.n (entry_in cells entries j)

-- a DSB publishes no more of a place with these marks
abbrev pub IsHeard : Barrier → Marks → Type 0
IsHeard by marks =
    (p : ℕ) → publishes by.dsb by.issuer by.n p ≡ true → pe_in marks.writers by.issuer ≡ true → pe_in marks.seen p ≡ true

-- a DSB answers nothing of what waits
abbrev pub IsUnanswered : Dsb → Pends → Type 0
IsUnanswered dsb pends = (b : Bool) (c : Cover) (p : ℕ) → (answers dsb b && waits pends b c p) ≡ false

-- a DSB that publishes leaves as many entries, each with its place and its number
abbrev pub KeepsSeats : Effect → List Entry → List Entry → Type 0
KeepsSeats (Publish heard) old new = (length new ≡ length old) × ((m : ℕ) → position_at new m ≡ position_at old m)
KeepsSeats Complete old new = Unit {0}

-- there is room for the next page of each entry
abbrev pub HasRoomToTell : Entries → Vec ℕ Global → Type 0
HasRoomToTell entries pages = vec_len pages + length entries.list.items ≤ vec_capacity pages

-- What a DSB leaves of the entries, and of the room for the next pages of those that leave.
pub record Visited (effect : Effect) (old new : Entries) (pages pages' : Vec ℕ Global) : Type 0 where
  pub sound : StillSound old new
  pub seats : KeepsSeats effect old.list.items new.list.items
  pub space : vec_capacity pages' ≡ vec_capacity pages
  pub room : vec_len pages' + length new.list.items ≤ vec_len pages + length old.list.items

-- the next page of the table that the place of a cell was broken over and isn't any more
abbrev pub loses_at : Entries → Entries → ℕ → Option ℕ
loses_at old new j = loses (marks_of (entry_of_cell old j)) (marks_of (entry_of_cell new j))

-- A DSB visited the entry of cell j. Where it left, and its core is a table, the next page is lost.
pub record VisitsCell (by : Barrier) (j : ℕ) (old new : Entries) (pages pages' : Vec ℕ Global) : Type 0 where
  pub visited : Visited by.effect old new pages pages'
  pub here : Does by.effect by (entry_of_cell old j) (entry_of_cell new j)
  pub told : pages'.items ≡ with_page pages.items (loses_at old new j)
  pub others : (i : ℕ) → i ≢ j → entry_of_cell new i ≡ entry_of_cell old i

-- It visited the entry with this number, and those before it are where they were.
pub record VisitsAt (effect : Effect) (by : Barrier) (k : ℕ) (old new : Entries) (pages pages' : Vec ℕ Global) : Type 0 where
  pub visited : Visited effect old new pages pages'
  pub short : length old.list.items ≤ length new.list.items + 1
  pub here : (j : ℕ) → cell_at old.list.items k ≡ Some j → Does effect by (entry_of_cell old j) (entry_of_cell new j)
  pub told : (j : ℕ) → cell_at old.list.items k ≡ Some j → pages'.items ≡ with_page pages.items (loses_at old new j)
  pub others : (i j : ℕ) → cell_at old.list.items k ≡ Some j → i ≢ j → entry_of_cell new i ≡ entry_of_cell old i
  pub front : (m : ℕ) → m < k → slice_get new.list.items m ≡ slice_get old.list.items m

-- It visited each entry. The lost pages are the next pages of the tables of those that left.
pub record VisitsAll (by : Barrier) (old new : Entries) (pages pages' : Vec ℕ Global) : Type 0 where
  pub visited : Visited by.effect old new pages pages'
  pub each : (j : ℕ) → Does by.effect by (entry_of_cell old j) (entry_of_cell new j)
  pub lost : (page : ℕ) → Contains pages'.items page → (j : ℕ) × (loses_at old new j ≡ Some page)
  pub told : (j page : ℕ) → loses_at old new j ≡ Some page → Contains pages'.items page
