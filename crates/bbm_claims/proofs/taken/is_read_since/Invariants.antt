use Rattle.bbm_rules.proofs.Common.{◌≡◌, ◌≤◌, false, take, reverse, read_since}
use Rattle.bbm_claims.proofs.taken.is_read_since.Given as goal

abbrev pub invariant-loop-i : goal.invariant-loop-i
invariant-loop-i l = (l.count ≤ l.i) × (read_since l.header l.count l.pe l.tag (reverse (take l.i l.events)) ≡ false)
