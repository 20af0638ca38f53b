use Rattle.bbm_texts.proofs.Common.{marked_lines, Puts}
use Rattle.bbm_rules.proofs.Common.{◌-◌, ◌≤◌, length, take, reverse, Ok}
use Rattle.bbm_texts.proofs.showing.tell_marks.Given as goal

abbrev pub invariant-events : goal.invariant-events
invariant-events g l = record {
  within : l.before ≤ length l.marks;
  puts : Puts (marked_lines (reverse (take l.before l.marks))) (Ok tt) (g.K.Sink.held l.initial.out) (g.K.Sink.held l.out)
      (g.K.Sink.faults l.initial.out) (g.K.Sink.faults l.out);
}

abbrev pub decreases-events : goal.decreases-events
decreases-events g l = length l.marks - l.before
