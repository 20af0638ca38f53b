use Rattle.bbm_unmapped.proofs.Common.{Before, LeastOf}
use Rattle.bbm_unmapped.proofs.Targets.{TargetAt}
use Rattle.bbm_unmapped.proofs.unmapped.Unmapped.target_below.Given as goal

abbrev pub invariant-loop-place : goal.invariant-loop-place
invariant-loop-place l = LeastOf (Before (TargetAt l.pages l.self l.index l.map l.listed) l.place) l.least
