use Rattle.bbm_certify.proofs.Common.{NoneBelow, waiting}
use Rattle.bbm_certify.proofs.patterns.first_waiting.Given as goal

abbrev pub invariant-loop-i : goal.invariant-loop-i
invariant-loop-i l = NoneBelow (waiting l.header l.spot.place l.spot.pe l.cover l.answer) l.from l.i l.log
