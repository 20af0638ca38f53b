use Rattle.bbm_roots.proofs.Others.{others}
use Rattle.bbm_roots.proofs.laws.law_others.Goals as goal

pub returns : goal.returns
returns c = λ roots heading h e stands none keeps. others stands e none keeps
