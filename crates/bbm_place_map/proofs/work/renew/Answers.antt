use Rattle.bbm_place_map.proofs.Common.{not, ap, sym, ◌∙◌, false≢true}
use Rattle.bbm_place_map.proofs.work.renew.Goals as goal

pub returns-clause-given_up : goal.returns-clause-given_up
returns-clause-given_up c = λ up. (c.restart_all.ensures up, c.restart_all-2.ensures up, λ settled. absurd (false≢true (sym (ap not up) ∙ settled)))
