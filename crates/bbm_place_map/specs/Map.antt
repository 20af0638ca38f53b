-- What the map says of each place and page. Each word is total: a place of no tracked page holds 0, isn't broken, and
-- nothing waits there.
-- Source: project's own choice.
use Rattle.std.specs.Prelude.{◌≡◌, ℕ, Bool, Option, Some, None, is_some, length, List, ◌*◌, ◌/◌, slice_get, unwrap_or}
use Rattle.std.specs.Option.{option_map}
use Rattle.bbm_descriptor.specs.declared.desc.Core.{Core}
use Rattle.bbm_entry_state.specs.declared.marks.Marks.{Marks}
use Rattle.bbm_entry_state.specs.declared.pending.Pends.{Pends}
use Rattle.bbm_entry_state.specs.declared.state.EntryState.{EntryState}
use Rattle.bbm_page_map.specs.PageLists.{number_in}
use Rattle.bbm_place_map.specs.Cells.{value_in}
use Rattle.bbm_place_map.specs.ByNumber.{entry_at}
use Rattle.bbm_place_map.specs.Entries.{marks_of, pends_of}
use Rattle.bbm_place_map.specs.Sound.{index_of, at_index, bases}
use Rattle.bbm_place_map.specs.States.{state_from}
use Rattle.bbm_place_map.specs.declared.entry.Entry.{Entry}
use Rattle.bbm_place_map.specs.declared.map.PlaceMap.{PlaceMap}
use Rattle.bbm_place_map.specs.declared.position.Position.{Position}

-- the page of an address
abbrev pub page_of : ℕ → ℕ
page_of a = a / 4096 * 4096

-- the value of a place
unfoldable pub value_at : PlaceMap → ℕ → ℕ
value_at map a = at_index 0 (value_in map.values.items) (index_of (bases map.pages) a)

-- what is kept of a broken place; None where the place isn't broken
abbrev pub place_entry : PlaceMap → ℕ → Option Entry
place_entry map a = at_index None (entry_at map.broken) (index_of (bases map.pages) a)

-- how far each PE is cleansed of the core of a broken place; None where the place isn't broken
unfoldable pub marks_at : PlaceMap → ℕ → Option Marks
marks_at map a = marks_of (place_entry map a)

-- what waits at a place for the answers of an issuer's TLBIs
unfoldable pub pends_at : PlaceMap → ℕ → ℕ → Pends
pends_at map q a = pends_of q (place_entry map a)

-- the tracked pages, in the order of their numbers
unfoldable pub pages_of : PlaceMap → List ℕ
pages_of map = map.pages

-- whether the page is tracked
abbrev pub is_tracked : PlaceMap → ℕ → Bool
is_tracked map page = is_some (number_in (pages_of map) page)

-- the position is that of a place of a tracked page: it has the page's number
unfoldable pub IsPosition : PlaceMap → Position → Type 0
IsPosition map position = number_in (pages_of map) (page_of position.place) ≡ Some position.page

-- how many places are broken, and one of them by its number
unfoldable pub restless_in : PlaceMap → ℕ
restless_in map = length map.broken.entries

unfoldable pub restless_place : PlaceMap → ℕ → ℕ
restless_place map i = unwrap_or (option_map (λ (e : Entry). e.place) (slice_get map.broken.entries i)) 0

-- the next pages of the tables that the last DSB took out
unfoldable pub lost_pages : PlaceMap → List ℕ
lost_pages map = map.broken.lost

-- the state of a place, where one that isn't broken is live with this core, or clean without one
abbrev pub state_at : PlaceMap → Option Core → ℕ → EntryState
state_at map live a = state_from live (marks_at map a)
