use Rattle.bbm_rules.proofs.PatternLaw.{seen_complete, seen_sound}
use Rattle.bbm_rules.proofs.history_laws.law_seen.Goals as goal

pub returns : goal.returns
returns c heading = record {
  sound = seen_sound heading;
  complete = seen_complete heading;
}
