use Rattle.bbm_alike.proofs.AlikeJudges.{same_broken, same_keeps}
use Rattle.bbm_alike.proofs.AlikePhases.{same_count, same_phase}
use Rattle.bbm_alike.proofs.judges.law_alike_judges.Goals as goal

pub returns : goal.returns
returns c heading one other = let k = c.known.ensures heading in record {
  rule = λ h h' e a. same_broken heading k one other h h' a e;
  keeps = λ h h' e a. same_keeps heading k one other h h' a e;
  phase = λ h h' place p a. same_phase heading k one other h h' a place p;
  restless = λ h h' a. same_count heading k one other h h' a;
}
