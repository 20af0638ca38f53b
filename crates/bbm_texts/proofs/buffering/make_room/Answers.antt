use Rattle.bbm_texts.proofs.Common.{Puts}
use Rattle.bbm_rules.proofs.Common.{◌≡◌, ℕ, List, Ok, Err, subst}
use Rattle.bbm_texts.proofs.Pouring.{poured, emptied}
use Rattle.bbm_texts.proofs.buffering.make_room.Goals as goal

pub returns-in-Ok-clause-poured : goal.returns-in-Ok-clause-poured
returns-in-Ok-clause-poured g c = λ text start faults buffered.
    let is : c.deref.result.now ≡ c.args.buffer.now.items = cc in
    let puts = subst (λ (t : List ℕ). Puts t (Ok tt) (g.K.Sink.held c.args.out.now) (g.K.Sink.held c.tell.new.out) (g.K.Sink.faults c.args.out.now) (g.K.Sink.faults c.tell.new.out)) is c.in-Ok.ensures.puts in
    emptied text c.args.buffer.now.items _ start _ _ faults _ _ (search) buffered puts

pub returns-in-Err-clause-poured : goal.returns-in-Err-clause-poured
returns-in-Err-clause-poured g c = λ text start faults buffered.
    let is : c.deref.result.now ≡ c.args.buffer.now.items = cc in
    let puts = subst (λ (t : List ℕ). Puts t (Err c.in-Err.failed) (g.K.Sink.held c.args.out.now) (g.K.Sink.held c.tell.new.out) (g.K.Sink.faults c.args.out.now) (g.K.Sink.faults c.tell.new.out)) is c.in-Err.ensures.puts in
    poured text c.args.buffer.now.items (Err c.in-Err.failed) start (g.K.Sink.held c.args.out.now) (g.K.Sink.held c.tell.new.out) faults (g.K.Sink.faults c.args.out.now) (g.K.Sink.faults c.tell.new.out) buffered puts
