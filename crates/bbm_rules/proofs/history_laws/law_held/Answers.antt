use Rattle.bbm_rules.proofs.EmptiedLaw.{emptied_complete, emptied_sound, emptied_stays, emptied_step}
use Rattle.bbm_rules.proofs.Emptied.{emptied_seen}
use Rattle.bbm_rules.proofs.HeldLaw.{held_complete, held_sound, live_is_held, valid_if_held}
use Rattle.bbm_rules.proofs.history_laws.law_held.Goals as goal

pub returns : goal.returns
returns c heading trust = record {
  sound = held_sound heading trust;
  complete = held_complete heading trust;
  valid = valid_if_held heading trust;
  live = live_is_held heading trust;
  emptied_sound = emptied_sound heading trust;
  emptied_complete = emptied_complete heading trust;
  emptied_seen = λ kind level place h w p below e last. emptied_seen heading trust kind level place h w p below e last;
  emptied_step = emptied_step heading trust;
  emptied_stays = emptied_stays heading trust;
}
