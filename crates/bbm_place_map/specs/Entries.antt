-- Entries: what is kept of the broken places, and of each the TLBIs that wait for their answers.
-- Source: project's own choice.
use Rattle.std.specs.Prelude.{◌≡◌, ◌+◌, ℕ, suc, Bool, true, false, cond, Option, Some, None, List, [], ◌∷◌, nat_eq, ◌<◌}
use Rattle.std.specs.Prelude.{length}
use Rattle.std.specs.Prelude.{slice_index_or, slice_get, if◌then◌else◌, ◌&&◌, ◌||◌}
use Rattle.std.specs.Option.{option_map}
use Rattle.bbm_tlbi_scope.specs.declared.entry.Cover.{Cover}
use Rattle.bbm_tlbi_scope.specs.SameCover.{same_cover}
use Rattle.bbm_regimes.specs.PeMask.{pe_in}
use Rattle.bbm_regimes.specs.declared.pe.PeMask.{PeMask}
use Rattle.bbm_entry_state.specs.Marking.{counts_for}
use Rattle.bbm_entry_state.specs.Points.{waits, waits_in}
use Rattle.bbm_entry_state.specs.declared.marks.Marks.{Marks}
use Rattle.bbm_entry_state.specs.declared.pending.Pend.{Pend}
use Rattle.bbm_entry_state.specs.declared.pending.Pends.{Pends}
use Rattle.bbm_place_map.specs.Cells.{slot_in}
use Rattle.bbm_place_map.specs.declared.entry.Entry.{Entry}
use Rattle.bbm_place_map.specs.declared.entry.Pending.{Pending}
use Rattle.smallvec.specs.SmallVec.{SmallVec, HasRoomFor}

-- no PE waits
abbrev pub no_pend : Pend
no_pend = record { half = record { bits = 0 }; second = record { bits = 0 }; full = record { bits = 0 } }

abbrev pub no_pends : Pends
no_pends = record { broadcast = no_pend; local = no_pend }

-- the TLBIs of one issuer that are broadcast, or its others
abbrev pub lane_of : ℕ → Bool → ℕ
lane_of q broadcast = q + q + cond broadcast 1 0

-- what waits for the answers of a lane
abbrev pub pend_in : List Pending → ℕ → Pend
pend_in [] k = no_pend
pend_in (p ∷ ps) k = if nat_eq p.lane k then p.pend else pend_in ps k

-- what waits for the answers of an issuer's TLBIs
abbrev pub pends_in : List Pending → ℕ → Pends
pends_in ps q = record { broadcast = pend_in ps (lane_of q true); local = pend_in ps (lane_of q false) }

-- the cell of the entry with this number
abbrev pub cell_at : List Entry → ℕ → Option ℕ
cell_at entries k = option_map (λ (e : Entry). e.cell) (slice_get entries k)

-- the number of the entry of a value's place; None where the place has none
abbrev pub number_by : List Entry → ℕ → Option ℕ
number_by [] j = None
number_by (e ∷ es) j = if nat_eq e.index j then Some 0 else option_map (λ n. suc n) (number_by es j)

-- the entry with a number
abbrev pub entry_of : List Entry → Option ℕ → Option Entry
entry_of entries None = None
entry_of entries (Some k) = slice_get entries k

abbrev pub entry_in : List ℕ → List Entry → ℕ → Option Entry
entry_in cells entries j = entry_of entries (slot_in cells j)

abbrev pub marks_of : Option Entry → Option Marks
marks_of None = None
marks_of (Some e) = Some e.marks

abbrev pub pends_of : ℕ → Option Entry → Pends
pends_of q None = no_pends
pends_of q (Some e) = pends_in e.pends.items q

-- the place, the number and the cell of an entry
abbrev pub position : Entry → ℕ × ℕ × ℕ
position e = (e.place, e.index, e.cell)

abbrev pub position_at : List Entry → ℕ → Option (ℕ × ℕ × ℕ)
position_at entries k = option_map position (slice_get entries k)

-- the entry with a number changes in its place, as the relation says, and no other does
abbrev pub ChangesAt : ℕ → (Entry → Entry → Type 0) → List Entry → List Entry → Type 0
ChangesAt k R old new = (e : Entry) → slice_get old k ≡ Some e → (f : Entry) × (position f ≡ position e) × R e f
    × ((i : ℕ) → slice_get new i ≡ (if nat_eq i k then Some f else slice_get old i))

-- the PEs wait too that a TLBI reaches and for which it counts, as far as it covers a place with these marks
abbrev pub Adds : Marks → PeMask → Cover → Pend → Pend → Type 0
Adds marks reach cover old new = (c : Cover) (p : ℕ)
    → waits_in new c p ≡ ((pe_in reach p && (same_cover c cover && counts_for marks c p)) || waits_in old c p)

-- the same waits
abbrev pub WaitsAlike : Pends → Pends → Type 0
WaitsAlike old new = (b : Bool) (c : Cover) (p : ℕ) → waits new b c p ≡ waits old b c p

-- none of the first n is of this lane
abbrev pub Lacks : List Pending → ℕ → ℕ → Type 0
Lacks ps n lane = (k : ℕ) (d : Pending) → k < n → k < length ps → nat_eq (slice_index_or ps k d).lane lane ≡ false

-- what waits for this lane has its place there, the first of its
abbrev pub IsFirst : List Pending → ℕ → ℕ → Type 0
IsFirst ps i lane = (i < length ps) × ((d : Pending) → (slice_index_or ps i d).lane ≡ lane) × Lacks ps i lane

-- what waits for this lane has its place there, or there is room for it
abbrev pub HasRoom : SmallVec Pending → ℕ → Type 0
HasRoom pends lane = Lacks pends.items (length pends.items) lane → HasRoomFor pends 1
