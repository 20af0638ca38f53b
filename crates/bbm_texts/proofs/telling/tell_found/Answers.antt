use Rattle.bbm_texts.proofs.Common.{Puts}
use Rattle.bbm_rules.proofs.Common.{◌≡◌, ℕ, List, subst}
use Rattle.bbm_rules.specs.Texts.{verdict_text as text_of_verdict}
use Rattle.bbm_report.specs.ReportLines.{found_text as text_of_found}
use Rattle.bbm_texts.proofs.Puts.{puts-then}
use Rattle.bbm_texts.proofs.telling.tell_found.Goals as goal

pub returns-in-Ok : goal.returns-in-Ok
returns-in-Ok g c =
    let text : c.deref.result.now ≡ text_of_found c.args.found = cc in
    let second = subst (λ (t : List ℕ). Puts t c.tell.result (g.K.Sink.held c.tell_verdict.new.out) (g.K.Sink.held c.tell.new.out) (g.K.Sink.faults c.tell_verdict.new.out) (g.K.Sink.faults c.tell.new.out)) text c.tell.ensures.puts in
    record { puts = puts-then (text_of_verdict c.args.verdict.now) (text_of_found c.args.found) c.tell.result _ _ _ _ _ _ c.in-Ok.ensures.puts second }
