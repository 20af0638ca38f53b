-- What the command `walk` is asked.
-- Source: project's own choice.
use Rattle.std.specs.Prelude.{ℕ, List, [], ◌∷◌, Option, Some, None, codes, bytes_eq, if◌then◌else◌}
use Rattle.bbm_events.specs.Fits.{is_page}
use Rattle.bbm_events.specs.Lines.{passing}
use Rattle.bbm_events.specs.Spelling.{hex_value}
use Rattle.bbm_events.specs.Words.{with_word, kind_word, kinds}
use Rattle.bbm_rules.specs.Lists.{◌>>=◌}
use Rattle.bbm_report.specs.declared.questions.Question.{Question}

-- The question of three words: that of a kind, the one hex spelling of a page, and the one hex spelling of a number
-- below 2^64. None where a word is any other.
abbrev pub question_of : List ℕ → List ℕ → List ℕ → Option Question
question_of kind_text root_text addr_text = do
  kind ← with_word kind_word kinds kind_text
  root ← passing is_page (hex_value root_text)
  addr ← hex_value addr_text
  Some (record { kind = kind; root = root; addr = addr })

-- the question of `walk KIND ROOT ADDR`, and none of any other words
abbrev pub walk_asked : List (List ℕ) → Option Question
walk_asked (word ∷ kind ∷ root ∷ addr ∷ []) =
    if bytes_eq word (codes "walk") then question_of kind root addr else None
walk_asked _ = None
