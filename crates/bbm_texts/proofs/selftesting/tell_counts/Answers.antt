use Rattle.bbm_texts.proofs.Common.{Accepted, heading, log_of, counts_text, Puts}
use Rattle.bbm_rules.proofs.Common.{◌≡◌, ℕ, List, subst}
use Rattle.bbm_rules.specs.Texts.{verdict_text}
use Rattle.bbm_texts.proofs.Puts.{puts-then}
use Rattle.bbm_texts.proofs.Selftests.{selftest-told, selftest-cut}
use Rattle.bbm_texts.proofs.selftesting.tell_counts.Goals as goal

pub returns-in-Ok : goal.returns-in-Ok
returns-in-Ok g c =
    let pages = c.pages.result in
    let restless = c.restless.result in
    let text : c.deref.result.now ≡ counts_text pages restless = cc in
    let second = subst (λ (t : List ℕ). Puts t c.tell.result (g.K.Sink.held c.tell_verdict.new.out) (g.K.Sink.held c.tell.new.out) (g.K.Sink.faults c.tell_verdict.new.out) (g.K.Sink.faults c.tell.new.out)) text c.tell.ensures.puts in
    let both = puts-then (verdict_text (Accepted c.from.result)) (counts_text pages restless) c.tell.result _ _ _ _ _ _ c.in-Ok.ensures.puts second in
    record {
      puts = λ n stands.
          let h = log_of n c.args.count in
          subst (λ (t : List ℕ). Puts t c.tell.result (g.K.Sink.held c.args.out.now) (g.K.Sink.held c.tell.new.out) (g.K.Sink.faults c.args.out.now) (g.K.Sink.faults c.tell.new.out))
          (selftest-told n c.args.count c.from.result pages restless c.from.ensures (c.pages.ensures heading h stands) (c.restless.ensures heading h stands)) both;
    }

pub returns-in-Err : goal.returns-in-Err
returns-in-Err g c = record {
  puts = λ n stands. (selftest-cut n c.args.count c.from.result _ _ c.from.ensures c.in-Err.ensures.puts.0, c.in-Err.ensures.puts.1);
}
