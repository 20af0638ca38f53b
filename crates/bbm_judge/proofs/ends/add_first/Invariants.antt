use Rattle.bbm_rules.proofs.Common.{◌≡◌, ◌++◌, take, map, end_at}
use Rattle.bbm_judge.proofs.ends.add_first.Given as goal

abbrev pub invariant-loop-page : goal.invariant-loop-page
invariant-loop-page l = l.ends.items ≡ l.initial.ends.items ++ map (end_at l.level) (take l.page-index l.pages)
