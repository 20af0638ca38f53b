use Rattle.bbm_rules.proofs.Common.{◌≡◌, ◌≤◌, take, reverse, Listed, holds_at}
use Rattle.bbm_claims.proofs.by_claims.holds_from.Given as goal

abbrev pub invariant-loop-i : goal.invariant-loop-i
invariant-loop-i l = (l.evidence.taken ≤ l.i)
    × (l.holds ≡ holds_at l.header (Listed l.evidence.claims.now) l.asked.pe l.asked.root l.asked.tag
    (reverse (take l.i l.events)))
