-- What a state and its pendings say of each PE.
-- Source: project's own choice.
use Rattle.std.specs.Prelude.{ℕ, Bool, true, false, Option, Some, None}
use Rattle.bbm_regimes.specs.PeMask.{pe_in}
use Rattle.bbm_descriptor.specs.declared.desc.Core.{Core}
use Rattle.bbm_tlbi_scope.specs.declared.entry.Cover.{Cover}
use Rattle.bbm_tlbi_scope.specs.declared.entry.Cover.TheVariants.{None as NoCover, Half, Second, Full}
use Rattle.bbm_entry_state.specs.declared.pending.Pend.{Pend}
use Rattle.bbm_entry_state.specs.declared.pending.Pends.{Pends}
use Rattle.bbm_entry_state.specs.declared.state.EntryState.{EntryState}
use Rattle.bbm_entry_state.specs.declared.state.EntryState.TheVariants.{Clean, Live, Broken}

-- the core that some TLB may still keep
abbrev pub core_in : EntryState → Option Core
core_in Clean = None
core_in (Live core) = Some core
core_in (Broken marks) = Some marks.core

-- whether the place has an invalid value over a core that some TLB may still keep
abbrev pub is_broken : EntryState → Bool
is_broken Clean = false
is_broken (Live core) = false
is_broken (Broken marks) = true

-- whether the PE is in each of the four masks, which are empty where the place isn't broken
abbrev pub writer_at : EntryState → ℕ → Bool
writer_at Clean p = false
writer_at (Live core) p = false
writer_at (Broken marks) p = pe_in marks.writers p

abbrev pub seen_at : EntryState → ℕ → Bool
seen_at Clean p = false
seen_at (Live core) p = false
seen_at (Broken marks) p = pe_in marks.seen p

abbrev pub half_at : EntryState → ℕ → Bool
half_at Clean p = false
half_at (Live core) p = false
half_at (Broken marks) p = pe_in marks.half p

abbrev pub clean_at : EntryState → ℕ → Bool
clean_at Clean p = false
clean_at (Live core) p = false
clean_at (Broken marks) p = pe_in marks.clean p

-- the pending masks of the TLBIs that are broadcast, or of those that aren't
abbrev pub side : Pends → Bool → Pend
side pends true = pends.broadcast
side pends false = pends.local

-- the PE waits for the answer of a TLBI that covers the place so far
abbrev pub waits_in : Pend → Cover → ℕ → Bool
waits_in pend NoCover p = false
waits_in pend Half p = pe_in pend.half p
waits_in pend Second p = pe_in pend.second p
waits_in pend Full p = pe_in pend.full p

abbrev pub waits : Pends → Bool → Cover → ℕ → Bool
waits pends broadcast cover p = waits_in (side pends broadcast) cover p
