-- The words in which the worked cases are written. A case is the text of a log, and the text of the verdict on it by the
-- whole rules; or what one definition says after the events of a log.
use Rattle.bbm_rules.proofs.Common.{codes, String, Claim, Trust, Progress, AtEvents, verdict_of_bytes}
use Rattle.std.specs.Prelude.{ℕ, List, [], ◌∷◌, ◌++◌, Option, Some, None}
use Rattle.std.specs.Fmt.{digits}
use Rattle.bbm_events.specs.declared.event.Event.{Event}
use Rattle.bbm_events.specs.Heading.{Heading}
use Rattle.bbm_events.specs.Lines.{header_of, item_of}
use Rattle.bbm_events.specs.Spelling.{decimal_value, hex_value}
use Rattle.bbm_rules.specs.Broken.{broken}
use Rattle.bbm_rules.specs.Claims.{Listed, Patterns}
use Rattle.bbm_rules.specs.Fold.{end_by, lines_from, turned_by}
use Rattle.bbm_rules.specs.Outcome.{AtHeader, check_limits, judging}
use Rattle.bbm_rules.specs.Texts.{verdict_text}
use Rattle.bbm_rules.specs.Tree.{tree}

-- the bytes of these lines, each with its newline
abbrev pub log : List String → List ℕ
log [] = []
log (line ∷ lines) = codes line ++ 10 ∷ log lines

-- the text of the verdict on these bytes
unfoldable pub judged_under : Trust → List ℕ → List ℕ
unfolding digits header_of item_of decimal_value hex_value broken tree judging turned_by end_by verdict_text
judged_under trust bytes = verdict_text (verdict_of_bytes trust check_limits bytes)

unfoldable pub judged_bytes : List ℕ → List ℕ
unfolding judged_under
judged_bytes bytes = judged_under Patterns bytes

-- that on the log with these lines
unfoldable pub judged : List String → List ℕ
unfolding judged_bytes
judged lines = judged_bytes (log lines)

-- the same by a certificate, the list of the claims that may be used
unfoldable pub judged_by : List Claim → List String → List ℕ
unfolding judged_under
judged_by claims lines = judged_under (Listed claims) (log lines)

-- what is said of the heading and the events of a log with these lines, where none of them decides
abbrev pub bytes_of_each : List String → List (List ℕ)
bytes_of_each [] = []
bytes_of_each (line ∷ lines) = codes line ∷ bytes_of_each lines

abbrev pub at_progress : {A : Type 0} → (Heading → List Event → A) → Option Progress → Option A
at_progress f (Some (AtEvents heading h)) = Some (f heading h)
at_progress f _ = None

unfoldable pub after : {A : Type 0} → List String → (Heading → List Event → A) → Option A
unfolding judged_under
after lines f = at_progress f (lines_from (judging Patterns check_limits) 1 AtHeader (bytes_of_each lines))
