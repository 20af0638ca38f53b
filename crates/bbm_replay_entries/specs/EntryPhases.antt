-- The phase that a state tells.
-- Source: project's own choice.
use Rattle.std.specs.Prelude.{ℕ, if◌then◌else◌}
use Rattle.bbm_regimes.specs.PeMask.{pe_in}
use Rattle.bbm_entry_state.specs.declared.marks.Marks.{Marks}
use Rattle.bbm_entry_state.specs.declared.state.EntryState.{EntryState}
use Rattle.bbm_entry_state.specs.declared.state.EntryState.TheVariants as state
use Rattle.bbm_rules.specs.declared.phase.Phase.{Phase}
use Rattle.bbm_rules.specs.declared.phase.Phase.TheVariants.{Clean, Live, Broken, Seen, Half, Cleansed}

-- the furthest that the PE has come
abbrev pub marks_phase : Marks → ℕ → Phase
marks_phase marks p =
    if pe_in marks.clean p then Cleansed
    else (if pe_in marks.half p then Half
    else (if pe_in marks.seen p then Seen
    else Broken))

-- the phase of the place at the PE
abbrev pub phase_in : EntryState → ℕ → Phase
phase_in state.Clean p = Clean
phase_in (state.Live core) p = Live
phase_in (state.Broken marks) p = marks_phase marks p
