-- States of places.
-- Source: project's own choice.
use Rattle.std.specs.Prelude.{Option, Some, None}
use Rattle.bbm_descriptor.specs.declared.desc.Core.{Core}
use Rattle.bbm_entry_state.specs.declared.marks.Marks.{Marks}
use Rattle.bbm_entry_state.specs.declared.state.EntryState.{EntryState}
use Rattle.bbm_entry_state.specs.declared.state.EntryState.TheVariants.{Clean, Live, Broken}

-- the state of a place with these marks; one that isn't broken is live with this core, or clean without one
abbrev pub state_from : Option Core → Option Marks → EntryState
state_from live (Some marks) = Broken marks
state_from (Some core) None = Live core
state_from None None = Clean

-- the marks of a state that is broken
abbrev pub marks_of_state : EntryState → Option Marks
marks_of_state Clean = None
marks_of_state (Live core) = None
marks_of_state (Broken marks) = Some marks
