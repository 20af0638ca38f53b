use Rattle.bbm_texts.proofs.Common.{ended, Pours}
use Rattle.bbm_rules.proofs.Common.{◌++◌, List, ℕ, subst}
use Rattle.bbm_texts.proofs.certifying.add_claim.Goals as goal

pub returns : goal.returns
returns g c = record {
  poured = λ text start faults buffered.
      subst (λ (l : List ℕ). Pours (text ++ ended l) c.add_line.result c.add_line.new.buffer.items start (g.K.Sink.held c.add_line.new.out) faults (g.K.Sink.faults c.add_line.new.out)) c.write_claim.ensures.line
      (c.add_line.ensures.poured text start faults buffered);
}
