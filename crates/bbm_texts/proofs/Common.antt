-- The names that most proofs of this crate cite, passed on from one place. Declares nothing.
pub use Rattle.bbm_events.specs.Heading.{Heading}
pub use Rattle.bbm_events.specs.declared.event.Event.{Event}
pub use Rattle.bbm_events.specs.declared.event.Event.TheVariants.{Dmb, Dsb, Init, Isb, Lock, Msr, Null, Root, Tlbi}
pub use Rattle.bbm_events.specs.declared.event.Event.TheVariants.{Unlock, Unroot, Write}
pub use Rattle.bbm_events.specs.declared.event.Item.TheVariants.{End}
pub use Rattle.bbm_gen.specs.Generated.{event_at, heading, log_of}
pub use Rattle.bbm_io.specs.declared.source.Failed.{Failed}
pub use Rattle.bbm_report.specs.Further.{explained}
pub use Rattle.bbm_rules.specs.Claims.{Patterns}
pub use Rattle.bbm_rules.specs.declared.rule.Rule.{Rule}
pub use Rattle.bbm_rules.specs.declared.rule.Rule.TheVariants.{BadKind, BadOperand, BreakBeforeMake, GlobalUser}
pub use Rattle.bbm_rules.specs.declared.rule.Rule.TheVariants.{LimboMake, LockBusy, LockNotMine, NoLock, NoRoot}
pub use Rattle.bbm_rules.specs.declared.rule.Rule.TheVariants.{NotFresh, NullWritten, PageInUse, RewrittenFresh}
pub use Rattle.bbm_rules.specs.declared.rule.Rule.TheVariants.{RootInUse, TableMapped, TagConflict, UnsyncedVmid}
pub use Rattle.bbm_rules.specs.declared.rule.Rule.TheVariants.{WrongWorld}
pub use Rattle.bbm_rules.specs.declared.verdict.Verdict.{Verdict}
pub use Rattle.bbm_rules.specs.declared.verdict.Verdict.TheVariants.{Accepted, Limit, Malformed, Refused}
pub use Rattle.bbm_texts.specs.CertTexts.{claim_lines}
pub use Rattle.bbm_texts.specs.Counterruns.{refused_write, step_line, step_lines}
pub use Rattle.bbm_texts.specs.Generating.{counts_text, ended, gen_first}
pub use Rattle.bbm_texts.specs.Known.{Keeps, Knows, KnowsThat, TellsEvent}
pub use Rattle.bbm_texts.specs.Says.{IsOutput, IsOutputUnder, MayShowEvidence}
pub use Rattle.bbm_texts.specs.Shown.{marked_lines}
pub use Rattle.bbm_texts.specs.Statuses.{status_of}
pub use Rattle.bbm_texts.specs.Telling.{place_named}
pub use Rattle.bbm_texts.specs.Writing.{Buffered, Part, Pours, Puts, ReportsDecided, ReportsText, Wrote}
pub use Rattle.bbm_texts.specs.declared.commands.Command.{Command}
pub use Rattle.bbm_texts.specs.declared.commands.Command.TheVariants.{Show}
pub use Rattle.bbm_texts.specs.declared.commands.Evidence.TheVariants.{Cert, Counterrun}
pub use Rattle.bbm_texts.specs.declared.decision.Decision.{Decision}
pub use Rattle.bbm_texts.specs.declared.status.Status.{Status}
pub use Rattle.bbm_tlb_machine.specs.declared.step.Step.{Step}
