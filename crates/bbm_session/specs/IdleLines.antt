-- The text of a log without the lines of its idle events. Source: project's own choice.
use Rattle.std.specs.Prelude.{◌≡◌, ℕ, suc, ◌+◌, ◌-◌, Bool, List, [], ◌∷◌, ◌++◌, length, take, if◌then◌else◌}
use Rattle.bbm_events.specs.declared.event.Event.{Event}
use Rattle.bbm_events.specs.declared.event.Item.TheVariants.{End}
use Rattle.bbm_events.specs.Heading.{Heading}
use Rattle.bbm_events.specs.Lines.{item_line}
use Rattle.bbm_idle.specs.Idle.{idle_marks, without_idle}
use Rattle.bbm_rules.specs.declared.limits.Limits.{Limits}
use Rattle.bbm_rules.specs.declared.verdict.Verdict.TheVariants.{Accepted}
use Rattle.bbm_rules.specs.Claims.Trust.{Patterns}
use Rattle.bbm_rules.specs.Fold.{bytes_of, text_of}
use Rattle.bbm_rules.specs.Lists.{among}
use Rattle.bbm_rules.specs.Outcome.{outcome_of, unrefused}

-- the numbers of the lines of marked events, the last line first: the event behind n others stands on line n + 2. Marks
-- are newest first.
abbrev pub marked_numbers : List Bool → List ℕ
marked_numbers [] = []
marked_numbers (marked ∷ older) = if marked then (length older + 2) ∷ marked_numbers older else marked_numbers older

-- the numbers of the lines of the idle events of a history
abbrev pub idle_numbers : Heading → List Event → List ℕ
idle_numbers heading h = marked_numbers (idle_marks heading h)

-- these lines, of which the first has number n, but for those with one of the numbers
abbrev pub lines_but : List ℕ → ℕ → List (List ℕ) → List (List ℕ)
lines_but numbers n [] = []
lines_but numbers n (line ∷ lines) =
    if among n numbers then lines_but numbers (suc n) lines else line ∷ lines_but numbers (suc n) lines

-- The text of a log of so many events without the lines of these numbers, its count corrected: its header and the lines
-- of its events, but for these, and `end` with the number of the events that are left.
abbrev pub text_but : List ℕ → ℕ → List ℕ → List ℕ
text_but numbers count bytes = bytes_of (lines_but numbers 1 (take (suc count) (text_of bytes).lines)
    ++ item_line (End (count - length numbers)) ∷ []) []

-- Without the lines of its idle events the text of a log of so many events, with this history, is accepted under the
-- limits with the number of the events that are left; these are its events.
abbrev pub StaysAccepted : Limits → List ℕ → ℕ → Heading → List Event → Type 0
StaysAccepted limits bytes count heading h = outcome_of Patterns limits (text_but (idle_numbers heading h) count bytes)
    ≡ record {
      says = unrefused (without_idle heading h) (Accepted (count - length (idle_numbers heading h)));
      unread = [];
    }
