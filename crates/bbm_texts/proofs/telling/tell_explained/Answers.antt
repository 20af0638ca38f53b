use Rattle.bbm_texts.proofs.Common.{place_named, Puts}
use Rattle.bbm_rules.proofs.Common.{◌≡◌, ℕ, List, ◌++◌, Some, sym, subst}
use Rattle.bbm_rules.specs.Texts.{verdict_text as text_of_verdict}
use Rattle.bbm_report.specs.Further.{phase_lines as lines_of_phases}
use Rattle.bbm_texts.proofs.Puts.{puts-then, explained-at, knows-keeps}
use Rattle.bbm_texts.proofs.telling.tell_explained.Goals as goal

pub returns-in-Some : goal.returns-in-Some
returns-in-Some g c =
    let header = c.args.header.now in
    let verdict = c.args.verdict.now in
    let named : place_named verdict ≡ Some c.in-Some.place = cc in
    record {
      puts = λ h knows.
          let second = c.tell_phases.ensures.puts h (knows-keeps (g.C.Checker.stands c.args.checker.now) header h verdict c.in-Some.place named knows) in
          subst (λ (t : List ℕ). Puts (text_of_verdict verdict ++ t) c.tell_phases.result (g.K.Sink.held c.args.out.now) (g.K.Sink.held c.tell_phases.new.out) (g.K.Sink.faults c.args.out.now) (g.K.Sink.faults c.tell_phases.new.out))
          (sym (explained-at header h verdict c.in-Some.place named))
          (puts-then (text_of_verdict verdict) (lines_of_phases header h c.in-Some.place header.pes) c.tell_phases.result _ _ _ _ _ _ c.in-Ok.ensures.puts second);
    }
