use Rattle.bbm_rules.proofs.Common.{first_pages, to_contains}
use Rattle.bbm_rules.proofs.TagEndsLaw.{kept_parts}
use Rattle.bbm_rules.proofs.TagLaw.{kept_complete, kept_sound}
use Rattle.bbm_rules.proofs.TagPagesLaw.{kept_listed}
use Rattle.bbm_rules.proofs.laws.law_tag_kept.Goals as goal

pub returns : goal.returns
returns c heading trust = record {
  sound = kept_sound heading trust;
  complete = kept_complete heading trust;
  parts = λ p page tag h. kept_parts heading trust p tag page h;
  listed = λ p page tag h k. to_contains (first_pages h) page (kept_listed heading trust p page tag h k);
}
