use Rattle.bbm_rules.proofs.Common.{refl}
use Rattle.bbm_roots.proofs.Judge.{broken_dmb, broken_dsb, broken_isb}
use Rattle.bbm_roots.proofs.laws.law_barriers.Goals as goal

pub returns : goal.returns
returns c = record {
  dsb = broken_dsb;
  dmb = broken_dmb;
  isb = broken_isb;
  dsb_limit = λ h pe dsb. refl;
  dmb_limit = λ h pe dsb. refl;
  isb_limit = λ h pe. refl;
}
