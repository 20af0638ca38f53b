use Rattle.bbm_claims.proofs.Common.{completed_by}
use Rattle.bbm_rules.proofs.Common.{◌≡◌, drop, list_any}
use Rattle.bbm_claims.proofs.marks.is_answered.Given as goal

abbrev pub invariant-loop-kept : goal.invariant-loop-kept
invariant-loop-kept l =
    list_any (completed_by l.issuer l.tlbi) (drop l.kept-index l.later)
    ≡ list_any (completed_by l.issuer l.tlbi) l.later
