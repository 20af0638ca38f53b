use Rattle.bbm_rules.proofs.TagEndsLaw.{held_complete, held_sound}
use Rattle.bbm_rules.proofs.laws.law_tag_held.Goals as goal

pub returns : goal.returns
returns c heading trust = record {
  sound = λ p root tag h. held_sound heading trust p tag root h;
  complete = λ p root tag h. held_complete heading trust p tag root h;
}
