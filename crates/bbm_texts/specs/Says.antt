-- What each command says of what was decided, the line on a log that was judged by its certificate, and the usage line.
-- A history is newest first. Source: project's own choice.
use Rattle.std.specs.Prelude.{◌≡◌, ℕ, suc, List, ◌++◌, Option, Some, None, Bool, true, false, codes}
use Rattle.bbm_cert.specs.declared.judged.Judged.{Judged}
use Rattle.bbm_cert.specs.declared.judged.Judged.TheVariants.{Yes, No}
use Rattle.bbm_events.specs.declared.event.Event.{Event}
use Rattle.bbm_events.specs.Heading.{Heading}
use Rattle.bbm_report.specs.Further.{Walked, explained}
use Rattle.bbm_report.specs.ReportLines.{unverified_text, verified_text}
use Rattle.bbm_rules.specs.declared.rule.Rule.TheVariants.{BreakBeforeMake}
use Rattle.bbm_rules.specs.declared.verdict.Verdict.{Verdict}
use Rattle.bbm_rules.specs.declared.verdict.Verdict.TheVariants.{Accepted, Refused}
use Rattle.bbm_rules.specs.Texts.{verdict_text}
use Rattle.bbm_texts.specs.declared.commands.Command.{Command}
use Rattle.bbm_texts.specs.declared.commands.Command.TheVariants.{Check, Slow, Explain, Walk, Show}
use Rattle.bbm_texts.specs.declared.commands.Evidence.TheVariants.{Idle, Counterrun, Cert}
use Rattle.bbm_texts.specs.declared.decision.Decision.{Decision}
use Rattle.bbm_texts.specs.Shown.{IsEvidenceText}

-- The text of a command for a verdict, after these events of a log with this heading, and for the event that the
-- verdict refuses, if there is one: the line of the verdict, and what is said behind it; or what the command shows.
abbrev pub IsOutputUnder : Command → Heading → List Event → Option Event → Verdict → List ℕ → Type 0
IsOutputUnder Check heading h refused verdict text = text ≡ verdict_text verdict
IsOutputUnder Slow heading h refused verdict text = text ≡ verdict_text verdict
IsOutputUnder Explain heading h refused verdict text = text ≡ verdict_text verdict ++ explained heading h verdict
IsOutputUnder (Walk question) heading h refused verdict text =
    (further : List ℕ) × (text ≡ verdict_text verdict ++ further) × Walked heading h question verdict further
IsOutputUnder (Show evidence) heading h refused verdict text = IsEvidenceText evidence heading h refused verdict text

-- The same; where the log has no heading it is the line of the verdict.
abbrev pub IsOutput : Command → Option Heading → List Event → Option Event → Verdict → List ℕ → Type 0
IsOutput command None h refused verdict text = text ≡ verdict_text verdict
IsOutput command (Some heading) h refused verdict text = IsOutputUnder command heading h refused verdict text

-- the text of a command for what was decided
abbrev pub IsOutputFor : Command → Option Heading → List Event → Decision → List ℕ → Type 0
IsOutputFor command heading h decision text = IsOutput command heading h decision.refused decision.verdict text

-- whether a command shows more of the events
abbrev pub shows_evidence : Command → Bool
shows_evidence (Show evidence) = true
shows_evidence _ = false

-- A command may show more of the events for this verdict.
abbrev pub MayShowEvidence : Command → Verdict → Type 0
MayShowEvidence (Show Idle) (Accepted events) = Unit {0}
MayShowEvidence (Show Counterrun) (Refused line BreakBeforeMake at label) = Unit {0}
MayShowEvidence (Show Cert) (Accepted events) = Unit {0}
MayShowEvidence _ _ = ⊥

-- The line on a log that was judged by its certificate, for so many events and claims: the event at a position stands
-- on the line behind it.
abbrev pub judged_text : ℕ → ℕ → Judged → List ℕ
judged_text events claims Yes = verified_text events claims
judged_text events claims (No position rule at) = unverified_text (suc position) rule at

-- the usage line, which names all commands
abbrev pub usage_text : List ℕ
usage_text = codes "usage: bbm check | slow | explain | walk KIND ROOT ADDR | gen N COUNT | selftest N COUNT | follow | counterrun | cert | verify | idle\n"
