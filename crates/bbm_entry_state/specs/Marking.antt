-- Where a TLBI counts for the masks of a broken place.
-- Source: project's own choice.
use Rattle.std.specs.Prelude.{ℕ, Bool, false}
use Rattle.bbm_regimes.specs.PeMask.{pe_in}
use Rattle.bbm_tlbi_scope.specs.declared.entry.Cover.{Cover}
use Rattle.bbm_tlbi_scope.specs.declared.entry.Cover.TheVariants.{None as NoCover, Half, Second, Full}
use Rattle.bbm_entry_state.specs.declared.marks.Marks.{Marks}

-- a second step where the first one is done, any other where the PE has seen the break
abbrev pub counts_for : Marks → Cover → ℕ → Bool
counts_for marks NoCover p = false
counts_for marks Half p = pe_in marks.seen p
counts_for marks Second p = pe_in marks.half p
counts_for marks Full p = pe_in marks.seen p
