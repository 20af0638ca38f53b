use Rattle.bbm_texts.proofs.Common.{gen_first, Buffered}
use Rattle.bbm_rules.proofs.Common.{◌≤◌, ◌-◌, ℕ, List, Option}
use Rattle.bbm_texts.specs.Generating.{gen_begin}
use Rattle.bbm_texts.proofs.generating.add_events.Given as goal

abbrev pub invariant-events : goal.invariant-events
invariant-events g l = record {
  within : l.i ≤ l.count;
  poured : (start : Option (List ℕ)) (faults : ℕ)
      → Buffered gen_first l.initial.buffer.items start (g.K.Sink.held l.initial.out) faults (g.K.Sink.faults l.initial.out)
      → Buffered (gen_begin l.n l.i) l.buffer.items start (g.K.Sink.held l.out) faults (g.K.Sink.faults l.out);
}

abbrev pub decreases-events : goal.decreases-events
decreases-events g l = l.count - l.i
