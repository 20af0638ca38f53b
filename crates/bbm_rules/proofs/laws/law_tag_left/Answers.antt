use Rattle.bbm_rules.proofs.Common.{given_up, to_contains}
use Rattle.bbm_rules.proofs.TagEndsLaw.{left_complete, left_in_given_up, left_sound}
use Rattle.bbm_rules.proofs.laws.law_tag_left.Goals as goal

pub returns : goal.returns
returns c heading trust = record {
  sound = λ p page tag h. left_sound heading trust p tag page h;
  listed = λ p page tag h i. to_contains (given_up h) page (left_in_given_up heading trust p tag page h i);
  complete = λ p page tag h. left_complete heading trust p tag page h;
}
