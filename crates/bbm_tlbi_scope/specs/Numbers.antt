-- How the parts of a scope compare with an entry or a place.
use Rattle.std.specs.Prelude.{ℕ, Bool, true, false, ◌&&◌, Option, Some, None, is_none, ◌==◌}
use Rattle.bbm_regimes.specs.Extent.{Extent, meets, holds}

-- whether the VMID or ASID is there and is this number
abbrev pub is_number : Option ℕ → ℕ → Bool
is_number None n = false
is_number (Some m) n = m == n

-- whether a TLBI for one VMID alone is issued where no VMID is defined
abbrev pub lacks_vmid : Bool → Option ℕ → Bool
lacks_vmid vmid_scoped vmid = vmid_scoped && is_none vmid

-- whether the level hint is none or this level
abbrev pub hint_allows : Option ℕ → ℕ → Bool
hint_allows None level = true
hint_allows (Some hint) level = hint == level

-- whether the scope names pages, and some page of the region is among them
abbrev pub names_some : Option Extent → Extent → Bool
names_some None region = false
names_some (Some interval) region = meets interval region

-- whether the scope names pages, and each page of the region is among them
abbrev pub names_all : Option Extent → Extent → Bool
names_all None region = false
names_all (Some interval) region = holds interval region
