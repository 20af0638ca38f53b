use Rattle.bbm_certify.proofs.Common.{NoneBelow, answering}
use Rattle.bbm_certify.proofs.patterns.answer_of.Given as goal

abbrev pub invariant-loop-i : goal.invariant-loop-i
invariant-loop-i l = NoneBelow (answering l.header l.spot.place l.spot.pe l.tlbi) 0 l.i l.later
