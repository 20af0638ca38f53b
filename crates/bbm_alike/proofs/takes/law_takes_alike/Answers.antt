use Rattle.bbm_alike.proofs.TakesLemmas.{takes_nothing, takes_patterns}
use Rattle.bbm_alike.proofs.takes.law_takes_alike.Goals as goal

pub returns : goal.returns
returns c heading = let k = c.known.ensures heading in record {
  patterns = λ h h' e a. takes_patterns heading k h h' a e;
  no_dsb = λ one other h h' e no_dsb a. takes_nothing heading k one other h h' a e no_dsb;
}
