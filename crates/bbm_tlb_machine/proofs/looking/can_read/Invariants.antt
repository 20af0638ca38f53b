use Rattle.bbm_rules.proofs.Common.{◌≡◌, ◌≤◌, length, take, drop, reverse, among, is_readable, readable_before}
use Rattle.bbm_tlb_machine.specs.Looking.{Marks}
use Rattle.bbm_tlb_machine.proofs.looking.can_read.Given as goal

abbrev pub invariant-back : goal.invariant-back
invariant-back l = record {
  within : l.n ≤ length l.events;
  marked : Marks l.header l.pe (drop l.n l.events) l.marks;
  same : among l.value (readable_before l.header (drop l.n l.events) (reverse (take l.n l.events)) l.place l.pe)
      ≡ is_readable l.header (reverse l.events) l.place l.pe l.value;
}

abbrev pub decreases-back : goal.decreases-back
decreases-back l = l.n
