use Rattle.bbm_texts.proofs.Common.{claim_lines, Buffered}
use Rattle.bbm_rules.proofs.Common.{◌≤◌, ◌-◌, ◌++◌, ℕ, List, Option, length, take}
use Rattle.bbm_texts.proofs.certifying.add_claims.Given as goal

abbrev pub invariant-claims : goal.invariant-claims
invariant-claims g l = record {
  within : l.i ≤ length l.claims;
  poured : (text : List ℕ) (start : Option (List ℕ)) (faults : ℕ)
      → Buffered text l.initial.buffer.items start (g.K.Sink.held l.initial.out) faults (g.K.Sink.faults l.initial.out)
      → Buffered (text ++ claim_lines (take l.i l.claims)) l.buffer.items start (g.K.Sink.held l.out) faults (g.K.Sink.faults l.out);
}

abbrev pub decreases-claims : goal.decreases-claims
decreases-claims g l = length l.claims - l.i
