use Rattle.bbm_rules.proofs.ReadableLaw.{published_complete, published_sound}
use Rattle.bbm_rules.proofs.event_laws.law_published.Goals as goal

pub returns : goal.returns
returns c heading = record {
  sound = published_sound heading;
  complete = published_complete heading;
}
