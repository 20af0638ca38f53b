-- The words in which the worked cases are written: bytes, and the text of the verdict on them.
use Rattle.bbm_rules.proofs.Common.{codes, String, verdict_of_bytes}
use Rattle.std.specs.Prelude.{ℕ, List, [], ◌∷◌, ◌++◌}
use Rattle.std.specs.Fmt.{digits}
use Rattle.bbm_events.specs.Lines.{header_of, item_of}
use Rattle.bbm_events.specs.Spelling.{decimal_value, hex_value}
use Rattle.bbm_rules.specs.Broken.{broken}
use Rattle.bbm_rules.specs.Claims.{Patterns}
use Rattle.bbm_rules.specs.Fold.{end_by, turned_by}
use Rattle.bbm_rules.specs.Outcome.{check_limits, judging}
use Rattle.bbm_rules.specs.Texts.{verdict_text}
use Rattle.bbm_rules.specs.Tree.{tree}

-- the bytes of these lines, each with its newline
abbrev pub bytes_of : List String → List ℕ
bytes_of [] = []
bytes_of (line ∷ lines) = codes line ++ 10 ∷ bytes_of lines

-- the line of the verdict on them, and on these lines with some bytes behind them
unfoldable pub told : List String → List ℕ → List ℕ
unfolding digits header_of item_of decimal_value hex_value broken tree judging turned_by end_by verdict_text
told lines rest = verdict_text (verdict_of_bytes Patterns check_limits (bytes_of lines ++ rest))
