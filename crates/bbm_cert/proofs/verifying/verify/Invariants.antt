use Rattle.bbm_rules.proofs.Common.{take, reverse}
use Rattle.bbm_cert.proofs.Verified.{Going}
use Rattle.bbm_cert.proofs.verifying.verify.Given as goal

abbrev pub invariant-loop-i : goal.invariant-loop-i
invariant-loop-i l = Going l.history l.header l.claims.items (reverse (take l.i l.log.items))
