use Rattle.bbm_certify.proofs.Common.{NoHalves}
use Rattle.bbm_certify.proofs.patterns.first_halves.Given as goal

abbrev pub invariant-loop-t : goal.invariant-loop-t
invariant-loop-t l = NoHalves l.header l.spot.place l.spot.pe l.answer l.from l.t l.log
