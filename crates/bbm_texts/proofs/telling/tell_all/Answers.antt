use Rattle.bbm_texts.proofs.Common.{explained, Command, IsOutputUnder, IsOutput}
use Rattle.bbm_rules.proofs.Common.{Some, ◌++◌, refl, sym, subst}
use Rattle.bbm_rules.specs.Texts.{verdict_text as text_of_verdict}
use Rattle.bbm_texts.proofs.telling.tell_all.Goals as goal

pub returns-in-Explain : goal.returns-in-Explain
returns-in-Explain g c =
    let header = c.args.header.now in
    let verdict = c.args.verdict.now in
    record {
      puts = λ h refused knows.
          let text = text_of_verdict verdict ++ explained header h verdict in
          let says : IsOutputUnder c.args.command.now header h refused verdict text = rw c.in-Explain.is refl in
          (text, says, c.tell_explained.ensures.puts h knows);
    }

pub returns-in-Walk : goal.returns-in-Walk
returns-in-Walk g c =
    let header = c.args.header.now in
    let verdict = c.args.verdict.now in
    record {
      puts = λ h refused knows.
          let walked = c.tell_walked.ensures.puts h refused knows in
          (walked.0, subst (λ (x : Command). IsOutput x (Some header) h refused verdict walked.0) (sym c.in-Walk.is) walked.1, walked.2);
    }
