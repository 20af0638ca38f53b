use Rattle.bbm_rules.proofs.ReadsLaw.{no_base, no_other_holder, no_tag_held, none_left}
use Rattle.bbm_rules.proofs.tag_laws.law_tag_rules.Goals as goal

pub returns : goal.returns
returns c heading trust = record {
  one_holder = no_other_holder heading trust;
  none_left = none_left heading trust;
  no_base = no_base heading trust;
  no_tag = λ flushed h. no_tag_held heading trust h flushed;
}
