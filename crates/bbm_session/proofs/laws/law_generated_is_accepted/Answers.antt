use Rattle.bbm_session.proofs.Common.{heading, Patterns}
use Rattle.bbm_rules.proofs.Common.{◌++◌, length, sym, ap, Ending, Judged, initialised}
use Rattle.bbm_rules.specs.Phases.{restless_of}
use Rattle.bbm_rules.specs.Texts.{verdict_text}
use Rattle.bbm_texts.specs.Generating.{counts_text, selftest_text}
use Rattle.bbm_session.proofs.GeneratedLogs.{accepted}
use Rattle.bbm_session.proofs.laws.law_generated_is_accepted.Goals as goal

pub returns-clause-accepted : goal.returns-clause-accepted
returns-clause-accepted c = accepted c.args.n c.args.count c.requires.lines (record {
  events = c.law_gen.ensures;
  lines = c.law_written_is_a_line.ensures;
  read = c.law_written_is_read.ensures;
})

pub returns-clause-selftest : goal.returns-clause-selftest
unfolding selftest_text
returns-clause-selftest c =
    ap (λ (o : Ending Judged). verdict_text o.says.verdict
    ++ counts_text (length (initialised o.says.log)) (restless_of heading Patterns o.says.log))
    (sym (returns-clause-accepted c))
