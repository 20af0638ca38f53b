use Rattle.bbm_texts.proofs.Common.{Puts}
use Rattle.bbm_rules.proofs.Common.{◌≡◌, ℕ, List, subst}
use Rattle.bbm_texts.proofs.Pouring.{poured}
use Rattle.bbm_texts.proofs.buffering.finish.Goals as goal

pub returns-in-Ok : goal.returns-in-Ok
returns-in-Ok g c =
    let is : c.deref.result.now ≡ c.args.buffer.now.items = cc in
    let puts = subst (λ (t : List ℕ). Puts t c.tell.result (g.K.Sink.held c.args.out.now) (g.K.Sink.held c.tell.new.out) (g.K.Sink.faults c.args.out.now) (g.K.Sink.faults c.tell.new.out)) is c.tell.ensures.puts in
    record {
      puts = λ text start faults pours.
          let buffered = rw c.in-Ok.is at pours in
          poured text c.args.buffer.now.items c.tell.result start _ _ faults _ _ buffered puts;
    }
