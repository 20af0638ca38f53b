use Rattle.bbm_texts.proofs.Common.{ended, Pours}
use Rattle.bbm_rules.proofs.Common.{[], List, ℕ, subst}
use Rattle.bbm_texts.proofs.Pouring.{buffered-none}
use Rattle.bbm_texts.proofs.buffering.add_header.Goals as goal

pub returns : goal.returns
returns g c = record {
  poured = subst (λ (l : List ℕ). Pours (ended l) c.add_line.result c.add_line.new.buffer.items (g.K.Sink.held c.args.out.now) (g.K.Sink.held c.add_line.new.out) (g.K.Sink.faults c.args.out.now) (g.K.Sink.faults c.add_line.new.out)) c.write_header.ensures.line
      (c.add_line.ensures.poured [] (g.K.Sink.held c.args.out.now) (g.K.Sink.faults c.args.out.now) (buffered-none c.args.buffer.now.items (g.K.Sink.held c.args.out.now) (g.K.Sink.faults c.args.out.now) c.requires.empty));
}
