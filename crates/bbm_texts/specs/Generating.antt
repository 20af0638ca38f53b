-- The text of a generated log: its header, its first events, and the end. The text of a self-test, which judges one.
-- Source: project's own choice.
use Rattle.std.specs.Prelude.{ℕ, zero, suc, List, [], ◌∷◌, ◌++◌, length, None, codes, decimal}
use Rattle.bbm_events.specs.declared.event.Item.TheVariants.{Event, End}
use Rattle.bbm_events.specs.Lines.{header_line, item_line}
use Rattle.bbm_gen.specs.Generated.{heading, event_at, log_of}
use Rattle.bbm_rules.specs.declared.verdict.Verdict.TheVariants.{Accepted}
use Rattle.bbm_rules.specs.Claims.{Patterns}
use Rattle.bbm_rules.specs.Pages.{initialised}
use Rattle.bbm_rules.specs.Phases.{restless_of}
use Rattle.bbm_rules.specs.Texts.{verdict_text}

-- a line with its newline
abbrev pub ended : List ℕ → List ℕ
ended line = line ++ 10 ∷ []

-- the lines of things, one behind the other
abbrev pub lines_of : {A : Type 0} → (A → List ℕ) → List A → List ℕ
lines_of line [] = []
lines_of line (a ∷ more) = ended (line a) ++ lines_of line more

-- the line of the header
abbrev pub gen_first : List ℕ
gen_first = ended (header_line heading)

-- the header and the first events of the log of the number n
unfoldable pub gen_begin : ℕ → ℕ → List ℕ
gen_begin n zero = gen_first
gen_begin n (suc i) = gen_begin n i ++ ended (item_line (Event (event_at n i) None))

-- the whole text of the log of the number n with so many events
abbrev pub gen_text : ℕ → ℕ → List ℕ
gen_text n count = gen_begin n count ++ ended (item_line (End count))

-- how many pages were initialised, and how many places are restless
unfoldable pub counts_text : ℕ → ℕ → List ℕ
counts_text pages restless = codes "pages " ++ decimal pages ++ codes " restless " ++ decimal restless ++ codes "\n"

-- The text of a self-test of the log of the number n with so many events: they are accepted, and these are the pages
-- that were initialised in it and the places that are restless at its end.
unfoldable pub selftest_text : ℕ → ℕ → List ℕ
selftest_text n count = verdict_text (Accepted count)
    ++ counts_text (length (initialised (log_of n count))) (restless_of heading Patterns (log_of n count))
