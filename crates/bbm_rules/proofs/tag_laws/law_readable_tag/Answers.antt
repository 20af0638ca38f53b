use Rattle.bbm_rules.proofs.ReadsLaw.{reads_complete, reads_sound}
use Rattle.bbm_rules.proofs.tag_laws.law_readable_tag.Goals as goal

pub returns : goal.returns
returns c heading = record {
  sound = reads_sound heading;
  complete = reads_complete heading;
}
