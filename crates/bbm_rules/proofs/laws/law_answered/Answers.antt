use Rattle.bbm_rules.proofs.OpenLaw.{open_complete, open_note_complete, open_note_sound, open_sound}
use Rattle.bbm_rules.proofs.laws.law_answered.Goals as goal

pub returns : goal.returns
returns c = record {
  sound = open_sound;
  complete = open_complete;
  noted_sound = open_note_sound;
  noted_complete = open_note_complete;
}
