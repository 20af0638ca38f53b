use Rattle.bbm_rules.proofs.ReadableLaw.{readable_complete, readable_sound}
use Rattle.bbm_rules.proofs.laws.law_readable_value.Goals as goal

pub returns : goal.returns
returns c heading = record {
  sound = readable_sound heading;
  complete = readable_complete heading;
}
