use Rattle.bbm_texts.proofs.Common.{Event, Keeps, Puts}
use Rattle.bbm_rules.proofs.Common.{◌-◌, ◌≤◌, List, Ok}
use Rattle.bbm_report.specs.Further.{phase_lines as lines_of_phases}
use Rattle.bbm_texts.proofs.telling.tell_phases.Given as goal

abbrev pub invariant-pes : goal.invariant-pes
invariant-pes g l = record {
  within : l.number ≤ l.header.pes;
  puts : (h : List Event) → Keeps (g.C.Checker.stands l.checker) l.header h
      → Puts (lines_of_phases l.header h l.place l.number) (Ok tt) (g.K.Sink.held l.initial.out) (g.K.Sink.held l.out)
      (g.K.Sink.faults l.initial.out) (g.K.Sink.faults l.out);
}

abbrev pub decreases-pes : goal.decreases-pes
decreases-pes g l = l.header-inside.pes - l.number
