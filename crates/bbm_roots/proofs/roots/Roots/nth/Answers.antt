use Rattle.bbm_roots.proofs.Common.{rules}
use Rattle.bbm_roots.specs.Listed.{nth_in}
use Rattle.bbm_roots.proofs.roots.Roots.nth.Goals as goal

pub returns-in-Some : goal.returns-in-Some
unfolding nth_in
returns-in-Some c = search rules

pub returns-in-None : goal.returns-in-None
unfolding nth_in
returns-in-None c = search rules
