use Rattle.bbm_histories.proofs.PhaseLemmas.{empty, holding, outside}
use Rattle.bbm_histories.proofs.phases.law_phase_parts.Goals as goal

pub returns : goal.returns
returns c heading trust = record {
  outside = outside heading trust;
  empty = empty heading trust;
  holding = holding heading trust;
}
