use Rattle.bbm_claims.proofs.Common.{notes_of, wrote_mark}
use Rattle.bbm_rules.proofs.Common.{◌≡◌, take, reverse}
use Rattle.bbm_claims.proofs.marks.last_write.Given as goal

abbrev pub invariant-loop-i : goal.invariant-loop-i
invariant-loop-i l = l.count ≡ wrote_mark l.place l.pe (notes_of (reverse (take l.i l.log)))
