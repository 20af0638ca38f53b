use Rattle.bbm_rules.proofs.HeldLaw.{last_complete, last_sound, live_is_last, valid_has_bit_0}
use Rattle.bbm_rules.proofs.history_laws.law_last_valid.Goals as goal

pub returns : goal.returns
returns c = record {
  sound = last_sound;
  complete = last_complete;
  live = live_is_last;
  odd = valid_has_bit_0;
}
