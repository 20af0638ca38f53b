use Rattle.bbm_texts.proofs.Common.{step_lines, Buffered}
use Rattle.bbm_rules.proofs.Common.{◌≤◌, ◌-◌, ◌++◌, ℕ, List, Option, length, take}
use Rattle.bbm_texts.proofs.counterrun.add_steps.Given as goal

abbrev pub invariant-steps : goal.invariant-steps
invariant-steps g l = record {
  within : l.i ≤ length l.steps;
  poured : (text : List ℕ) (start : Option (List ℕ)) (faults : ℕ)
      → Buffered text l.initial.buffer.items start (g.K.Sink.held l.initial.out) faults (g.K.Sink.faults l.initial.out)
      → Buffered (text ++ step_lines (take l.i l.steps)) l.buffer.items start (g.K.Sink.held l.out) faults (g.K.Sink.faults l.out);
}

abbrev pub decreases-steps : goal.decreases-steps
decreases-steps g l = length l.steps - l.i
