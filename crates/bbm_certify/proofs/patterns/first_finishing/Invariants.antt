use Rattle.bbm_certify.proofs.Common.{NoneBelow, finishing}
use Rattle.bbm_certify.proofs.patterns.first_finishing.Given as goal

abbrev pub invariant-loop-i : goal.invariant-loop-i
invariant-loop-i l = NoneBelow (finishing l.place l.answer) 0 l.i l.log
