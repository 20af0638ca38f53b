-- What a command shows of the events of a log. A history is newest first.
-- Source: project's own choice.
use Rattle.std.specs.Prelude.{◌≡◌, ℕ, ◌+◌, Bool, List, [], ◌∷◌, ◌++◌, length, Option, if◌then◌else◌}
use Rattle.bbm_idle.specs.Idle.{idle_marks}
use Rattle.bbm_events.specs.declared.event.Event.{Event}
use Rattle.bbm_events.specs.Heading.{Heading}
use Rattle.bbm_report.specs.ReportLines.{idle_text}
use Rattle.bbm_rules.specs.declared.verdict.Verdict.{Verdict}
use Rattle.bbm_rules.specs.declared.verdict.Verdict.TheVariants.{Accepted}
use Rattle.bbm_texts.specs.declared.commands.Evidence.{Evidence}
use Rattle.bbm_rules.specs.Texts.{verdict_text}
use Rattle.bbm_texts.specs.CertTexts.{CertOf}
use Rattle.bbm_texts.specs.Counterruns.{RunOf, refused_write}
use Rattle.bbm_texts.specs.declared.commands.Evidence.TheVariants.{Idle, Counterrun, Cert}

-- the line of an event behind so many others, where it is marked: the first event stands on line 2
abbrev pub marked_line : Bool → ℕ → List ℕ
marked_line marked before = if marked then idle_text (before + 2) else []

-- the lines of the marked events, in the order of the log; marks are newest first
abbrev pub marked_lines : List Bool → List ℕ
marked_lines [] = []
marked_lines (marked ∷ older) = marked_lines older ++ marked_line marked (length older)

-- of an accepted log the lines of its idle events
abbrev pub idle_lines : Heading → List Event → Verdict → List ℕ
idle_lines heading h (Accepted events) = marked_lines (idle_marks heading h)
idle_lines heading h _ = []

-- Shown: the line of the verdict, and behind it those of idle events; or where break-before-make refuses an event, a
-- run; or of an accepted log its certificate.
abbrev pub IsEvidenceText : Evidence → Heading → List Event → Option Event → Verdict → List ℕ → Type 0
IsEvidenceText Idle heading h refused verdict text = text ≡ verdict_text verdict ++ idle_lines heading h verdict
IsEvidenceText Counterrun heading h refused verdict text = RunOf heading h verdict text (refused_write refused verdict)
IsEvidenceText Cert heading h refused verdict text = CertOf heading h verdict text
