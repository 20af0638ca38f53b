-- The names that most proofs of this crate cite, passed on from one place. Declares nothing.
pub use Rattle.std.proofs.Common.{IfErr}
pub use Rattle.std.proofs.Math.ListN.{drop_of_length-le}
pub use Rattle.bbm_certificate.specs.declared.kept.Kept.{Kept}
pub use Rattle.bbm_events.specs.Fits.{item_fits}
pub use Rattle.bbm_events.specs.Heading.{Heading}
pub use Rattle.bbm_events.specs.declared.event.Event.{Event}
pub use Rattle.bbm_gen.specs.Generated.{heading}
pub use Rattle.bbm_io.specs.Flow.{plain}
pub use Rattle.bbm_report.specs.Further.{heading_in}
pub use Rattle.bbm_rules.specs.Claims.{Patterns}
pub use Rattle.bbm_rules.specs.Outcome.{limit_after}
pub use Rattle.bbm_rules.specs.declared.limits.Limits.{Limits}
pub use Rattle.bbm_rules.specs.declared.rule.Rule.{Rule}
pub use Rattle.bbm_rules.specs.declared.verdict.Verdict.{Verdict}
pub use Rattle.bbm_rules.specs.declared.verdict.Verdict.TheVariants.{Accepted, Limit, Malformed, Refused}
pub use Rattle.bbm_session.specs.Certificates.{CertifiedReadFor}
pub use Rattle.bbm_session.specs.Reader.{IsEnd, IsInside, IsStart, Reader, alone}
pub use Rattle.bbm_session.specs.Readers.{Certifies, Follows, Judges, certificate_reader, event_needs, is_frugal}
pub use Rattle.bbm_session.specs.Readers.{judged_at, log_reader, reader_for, run_reader}
pub use Rattle.bbm_session.specs.JudgedLog.{Unjudged}
pub use Rattle.bbm_session.specs.Run.{NeedsMemory, ReadAs, ReadFor, limits_of}
pub use Rattle.bbm_session.specs.Runs.{RunReadFor}
pub use Rattle.bbm_session.specs.Serving.{Heads, Reports, ReportsShown}
pub use Rattle.bbm_session.specs.Stages.{Breaks, Concludes, Ends, Going, HeaderLine, IsBrief, KnowsAt, KnowsWhy}
pub use Rattle.bbm_session.specs.Stages.{MayTakeLine, ReadsHeader, RefusedOn, Shrinks, Starts, Starves, Stops}
pub use Rattle.bbm_session.specs.Stages.{FoldsLine, plain_lines}
pub use Rattle.bbm_session.specs.declared.command.Request.TheVariants.{Generate, Judge, Selftest, Verify}
pub use Rattle.bbm_session.specs.declared.stop.Stop.{Stop}
pub use Rattle.bbm_session.specs.declared.stop.Stop.TheVariants.{Decided, NoMemory, ReadFault}
pub use Rattle.bbm_log_grammar.specs.declared.turn.Turn.{Turn}
pub use Rattle.bbm_log_grammar.specs.declared.turn.Turn.TheVariants.{End, Taken}
pub use Rattle.bbm_texts.specs.Generating.{gen_text}
pub use Rattle.bbm_texts.specs.Known.{IsRefused, Keeps, KnowsThat}
pub use Rattle.bbm_texts.specs.Says.{IsOutput, IsOutputFor}
pub use Rattle.bbm_texts.specs.declared.commands.Command.{Command}
pub use Rattle.bbm_texts.specs.declared.commands.Command.TheVariants.{Check, Explain, Show, Slow, Walk}
pub use Rattle.bbm_texts.specs.declared.decision.Decision.{Decision}
pub use Rattle.bbm_tlb_machine.specs.declared.step.Step.{Step}
