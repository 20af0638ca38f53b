use Rattle.bbm_rules.proofs.NotesLaw.{ends_in_older, notes_given, tops_given}
use Rattle.bbm_rules.proofs.history_laws.law_notes.Goals as goal

pub returns : goal.returns
returns c heading trust = record {
  ends_in_older = ends_in_older heading trust;
  each = notes_given heading trust;
  tops = tops_given heading trust;
}
