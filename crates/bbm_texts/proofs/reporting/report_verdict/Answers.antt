use Rattle.bbm_texts.proofs.Puts.{says-line}
use Rattle.bbm_texts.proofs.reporting.report_verdict.Goals as goal

pub returns-clause-alone : goal.returns-clause-alone
returns-clause-alone g c = λ ends command heading h refused. says-line command heading h refused c.args.verdict.now ends
