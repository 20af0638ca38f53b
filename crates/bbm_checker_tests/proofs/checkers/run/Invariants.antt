use Rattle.bbm_rules.proofs.Common.{◌≤◌, List, length, Event}
use Rattle.bbm_checker_tests.proofs.checkers.run.Given as goal

abbrev pub invariant-loop-line : goal.invariant-loop-line
invariant-loop-line g l =
    (h : List Event) × g.C.Checker.stands l.checker l.header h × (length h ≤ l.line-index)
