-- What the issue of a TLBI makes of each entry.
-- Source: project's own choice.
use Rattle.std.specs.Prelude.{◌≡◌, ◌≢◌, ℕ, Bool, true, false, List, Some}
use Rattle.std.specs.Prelude.{slice_get}
use Rattle.bbm_tlbi_scope.specs.declared.entry.Cover.{Cover}
use Rattle.bbm_tlbi_scope.specs.declared.entry.Cover.TheVariants.{None as NoCover, Half, Second, Full}
use Rattle.bbm_entry_state.specs.EntryCalls.{Noted}
use Rattle.bbm_entry_state.specs.declared.state.EntryState.TheVariants.{Broken}
use Rattle.bbm_place_map.specs.Entries.{pends_in, HasRoom}
use Rattle.bbm_place_map.specs.Finds.{cover_in, is_found}
use Rattle.bbm_place_map.specs.Sound.{SameSize}
use Rattle.bbm_place_map.specs.Works.{HoldsFor}
use Rattle.bbm_place_map.specs.declared.entries.Entries.{Entries}
use Rattle.bbm_place_map.specs.declared.entry.Entry.{Entry}
use Rattle.bbm_place_map.specs.declared.found.Found.{Found}
use Rattle.bbm_place_map.specs.declared.orders.Issuing.{Issuing}
use Rattle.bbm_place_map.specs.declared.work.WorkList.{WorkList}

abbrev pub is_cover : Cover → Bool
is_cover NoCover = false
is_cover Half = true
is_cover Second = true
is_cover Full = true

-- the marks stay, and what waits for the answers of any other issuer
abbrev pub KeepsOthers : ℕ → Entry → Entry → Type 0
KeepsOthers issuer e f = (f.marks ≡ e.marks) × ((q : ℕ) → q ≢ issuer → pends_in f.pends.items q ≡ pends_in e.pends.items q)

-- the marks and what waits stay
abbrev pub Keeps : Entry → Entry → Type 0
Keeps e f = (f.marks ≡ e.marks) × (f.pends.items ≡ e.pends.items)

-- and there is room for the lane, where the place is covered
abbrev pub Readies : ℕ → List Cover → ℕ → Entry → Entry → Type 0
Readies lane covers m e f =
    (f.marks ≡ e.marks) × (f.pends.items ≡ e.pends.items)
    × ((c : Cover) → slice_get covers m ≡ Some c → is_cover c ≡ true → HasRoom f.pends lane)

-- the TLBI, which covers the place so far, is noted there already: to note it changes nothing
abbrev pub IsNoted : Cover → Issuing → Entry → Type 0
IsNoted cover by e = Noted (Broken e.marks) (pends_in e.pends.items by.issuer) by.reach by.broadcast cover
    (pends_in e.pends.items by.issuer)

-- the TLBI is noted, which covers the place so far
abbrev pub NotesAs : Cover → Issuing → Entry → Entry → Type 0
NotesAs cover by e f =
    (f.marks ≡ e.marks) × ((q : ℕ) → q ≢ by.issuer → pends_in f.pends.items q ≡ pends_in e.pends.items q)
    × Noted (Broken e.marks) (pends_in e.pends.items by.issuer) by.reach by.broadcast cover (pends_in f.pends.items by.issuer)
    × (is_cover cover ≡ false → f.pends.items ≡ e.pends.items)

-- the TLBI is noted as far as it covers the place
abbrev pub NotesAt : List Cover → Issuing → ℕ → Entry → Entry → Type 0
NotesAt covers by m e f =
    (f.marks ≡ e.marks) × ((q : ℕ) → q ≢ by.issuer → pends_in f.pends.items q ≡ pends_in e.pends.items q)
    × ((c : Cover) → slice_get covers m ≡ Some c → NotesAs c by e f)

-- the entry of one place changes as the relation says, and no other entry does
abbrev pub AtPlace : ℕ → (Entry → Entry → Type 0) → Entry → Entry → Type 0
AtPlace place R e f = (e.place ≡ place → R e f) × (e.place ≢ place → f ≡ e)

-- the TLBI is noted as far as the items cover the place, and an entry whose place isn't among them stays
abbrev pub NotesFound : List Found → Issuing → Entry → Entry → Type 0
NotesFound found by e f = NotesAs (cover_in found e.place) by e f × (is_found found e.place ≡ false → f ≡ e)

-- so it is, whatever room was made before
abbrev pub NotesAmong : List Found → Issuing → Entry → Entry → Type 0
NotesAmong found by e f =
    NotesAs (cover_in found e.place) by e f × (is_found found e.place ≡ false → f.pends.items ≡ e.pends.items)

-- As many entries of the same cells, in as much room, and the lists have what they had.
pub record OnlyNotes (old new : Entries) (lists lists' : List WorkList) : Type 0 where
  pub cells : new.cells ≡ old.cells
  pub size : SameSize old.list new.list
  pub kept : (wide : Bool) (q j : ℕ) → HoldsFor lists q wide j → HoldsFor lists' q wide j
