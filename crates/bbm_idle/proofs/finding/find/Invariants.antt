use Rattle.bbm_idle.proofs.Common.{IsSearch, idle_marks}
use Rattle.bbm_rules.proofs.Common.{◌≡◌, take, reverse}
use Rattle.bbm_idle.proofs.finding.find.Given as goal

abbrev pub invariant-loop-index : goal.invariant-loop-index
invariant-loop-index l = record {
  search : IsSearch l.search l.header (reverse (take l.index l.log));
  marks : l.marks.items ≡ reverse (idle_marks l.header (reverse (take l.index l.log)));
}
