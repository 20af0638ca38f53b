use Rattle.bbm_certify.proofs.Common.{NoneBelow, publishing}
use Rattle.bbm_certify.proofs.patterns.first_publication.Given as goal

abbrev pub invariant-loop-i : goal.invariant-loop-i
invariant-loop-i l = NoneBelow (publishing l.header l.spot.place l.spot.pe) 0 l.i l.log
