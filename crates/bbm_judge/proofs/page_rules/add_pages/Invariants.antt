use Rattle.bbm_rules.proofs.Common.{◌≡◌, ◌++◌, take, pages_of}
use Rattle.bbm_judge.proofs.page_rules.add_pages.Given as goal

abbrev pub invariant-loop-end : goal.invariant-loop-end
invariant-loop-end l = l.pages.items ≡ l.initial.pages.items ++ pages_of (take l.end-index l.ends)
