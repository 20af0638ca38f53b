use Rattle.bbm_rules.proofs.NotesLaw.{events_noted}
use Rattle.bbm_rules.proofs.laws.law_notes_keep_the_events.Goals as goal

pub returns : goal.returns
returns c = events_noted
