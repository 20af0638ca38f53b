use Rattle.bbm_lemmas.proofs.Every.{every_at, every_from, every_none, every_same, every_wider}
use Rattle.bbm_regimes.proofs.laws.law_every_pe.Goals as goal

pub returns : goal.returns
returns c = record {
  sound = every_at;
  complete = every_from;
  same = every_same;
  wider = every_wider;
  none = every_none;
}
