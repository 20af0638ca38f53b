-- Which events and items can stand in a log with a header.
-- Source: project's own choice, but for the alignments.
use Rattle.std.specs.Prelude.{ℕ, List, ◌^◌, ◌*◌, ◌%◌, Bool, true, ◌&&◌, ◌||◌, nat_lt, ◌==◌, Option, Some, None}
use Rattle.bbm_regimes.specs.declared.regime.World.{World}
use Rattle.bbm_regimes.specs.declared.regime.Kind.{Kind}
use Rattle.bbm_regimes.specs.World.{page_count}
use Rattle.bbm_tlbi_scope.specs.declared.op.TlbiOp.{TlbiOp}
use Rattle.bbm_tlbi_scope.specs.Operations.{has_operand}
use Rattle.bbm_events.specs.declared.event.Event.{Event}
use Rattle.bbm_events.specs.declared.event.Event.TheVariants.{Init, Null, Root, Unroot, Write, Dsb, Dmb, Isb, Tlbi, Msr}
use Rattle.bbm_events.specs.declared.event.Event.TheVariants.{Lock, Unlock}
use Rattle.bbm_events.specs.declared.event.Item.{Item}
use Rattle.bbm_events.specs.declared.event.Item.TheVariants as item
use Rattle.bbm_events.specs.Heading.{Heading, has_op, may_label}
use Rattle.bbm_events.specs.Label.{is_label}

-- The address of a page, and of a descriptor.
-- Source: Arm ARM (DDI 0487), "VMSAv8-64 descriptor formats", the 4 KiB granule with 48-bit addresses.
abbrev pub is_page : ℕ → Bool
is_page n = nat_lt n (2 ^ 48) && n % 4096 == 0

abbrev pub is_place : ℕ → Bool
is_place n = nat_lt n (2 ^ 48) && n % 8 == 0

abbrev pub is_value : ℕ → Bool
is_value n = nat_lt n (2 ^ 64)

abbrev pub is_lock : ℕ → Bool
is_lock n = nat_lt n 1024

abbrev pub is_count : ℕ → Bool
is_count n = nat_lt n (2 ^ 32)

-- The first page of a root is aligned to the size of all its pages.
-- Source: Arm ARM (DDI 0487), "VMSAv8-64 translation table walks", concatenated translation tables.
abbrev pub is_root_page : World → Kind → ℕ → Bool
is_root_page world kind n = is_page n && n % (4096 * page_count world kind) == 0

abbrev pub is_root_lock : Option ℕ → Bool
is_root_lock None = true
is_root_lock (Some lock) = is_lock lock

abbrev pub is_pe : Heading → ℕ → Bool
is_pe h pe = nat_lt pe h.pes

-- an operand is 0 where the operation has none
abbrev pub is_operand : TlbiOp → ℕ → Bool
is_operand op xt = is_value xt && (has_operand op || xt == 0)

abbrev pub fits_heading : Heading → Event → Bool
fits_heading h (Init pe page) = is_pe h pe && is_page page
fits_heading h (Null pe page) = is_pe h pe && is_page page
fits_heading h (Root pe kind lock page) = is_pe h pe && is_root_lock lock && is_root_page h.world kind page
fits_heading h (Unroot pe page) = is_pe h pe && is_page page
fits_heading h (Write pe place value) = is_pe h pe && is_place place && is_value value
fits_heading h (Dsb pe dsb) = is_pe h pe
fits_heading h (Dmb pe dsb) = is_pe h pe
fits_heading h (Isb pe) = is_pe h pe
fits_heading h (Tlbi pe op xt) = is_pe h pe && has_op h.version op && is_operand op xt
fits_heading h (Msr pe reg value) = is_pe h pe && is_value value
fits_heading h (Lock pe lock) = is_pe h pe && is_lock lock
fits_heading h (Unlock pe lock) = is_pe h pe && is_lock lock

-- none, or under version 3 and later a label
abbrev pub label_fits : ℕ → Option (List ℕ) → Bool
label_fits version None = true
label_fits version (Some label) = may_label version && is_label label

-- the same of an item: an event and its label fit, and the count of an end is below 2 ^ 32
abbrev pub item_fits : Heading → Item → Bool
item_fits h (item.Event event label) = fits_heading h event && label_fits h.version label
item_fits h (item.End count) = is_count count
