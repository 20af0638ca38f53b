use Rattle.bbm_rules.proofs.TagSetLaw.{many_tags, no_tag, one_tag}
use Rattle.bbm_rules.proofs.event_laws.law_tag_set.Goals as goal

pub returns : goal.returns
returns c heading trust = record {
  none = no_tag heading trust;
  one = one_tag heading trust;
  many = many_tags heading trust;
}
