-- What the session needs to know of a fold over the lines of a log to read it line after line. No public contract
-- cites these words.
use Rattle.std.specs.Prelude.{◌≡◌, ℕ, Bool, List, [], ◌∷◌, None}
use Rattle.bbm_regimes.specs.declared.regime.Which.TheVariants.{LineBytes}
use Rattle.bbm_events.specs.declared.malformed.Malformed.TheVariants.{NoEnd, AfterEnd}
use Rattle.bbm_events.specs.Heading.{Heading}
use Rattle.bbm_events.specs.Lines.{header_of}
use Rattle.bbm_rules.specs.Fold.{Fold, Halts, header_by}
use Rattle.bbm_rules.specs.declared.verdict.Verdict.{Verdict}
use Rattle.bbm_rules.specs.declared.verdict.Verdict.TheVariants.{Malformed, Limit}
use Rattle.bbm_texts.specs.declared.decision.Decision.{Decision}

-- a verdict that refuses no event
abbrev pub alone : Verdict → Decision
alone verdict = record { verdict = verdict; refused = None }

-- a fold over the lines of a log, and what it says by how far they were read
pub record Reader (P V : Type 0) : Type 0 where
  pub lines : Fold P V
  -- what is said where a line stops reading and this is decided, by how far the lines before it were read
  pub stopped : P → Decision → V
  -- what is said where the whole text was read, by how far the lines before its end were read
  pub whole : P → V
  -- whether memory is needed for a line
  pub needs : ℕ → P → List ℕ → Bool

-- what is said of a verdict that refuses no event
abbrev pub told : {P V : Type 0} → Reader P V → P → Verdict → V
told reader p verdict = reader.stopped p (alone verdict)

-- The parts of a log: its header, the lines behind it, and the end.

-- the start of a log, where a header is read
pub record IsStart {P V : Type 0} (reader : Reader P V) (start : P) (begun : Heading → P) : Type 0 where
  pub line : (l : List ℕ) → reader.lines.line 1 start l ≡ header_by begun (told reader start) 1 (header_of l)
  pub long : reader.lines.long 1 start ≡ told reader start (Limit 1 LineBytes)
  pub cut : (rest : List ℕ) → reader.lines.cut 1 start rest ≡ told reader start (Malformed 1 NoEnd)

-- between the header and the end
pub record IsInside {P V : Type 0} (reader : Reader P V) (p : P) : Type 0 where
  pub long : (n : ℕ) → reader.lines.long n p ≡ told reader p (Limit n LineBytes)
  pub cut : (n : ℕ) (rest : List ℕ) → reader.lines.cut n p rest ≡ told reader p (Malformed n NoEnd)

-- behind the end, where nothing may follow; the lines before the end were read to p
pub record IsEnd {P V : Type 0} (reader : Reader P V) (p q : P) : Type 0 where
  pub line : (n : ℕ) (l : List ℕ) → reader.lines.line n q l ≡ Halts (told reader p (Malformed n AfterEnd))
  pub long : (n : ℕ) → reader.lines.long n q ≡ told reader p (Malformed n AfterEnd)
  pub nothing : (n : ℕ) → reader.lines.cut n q [] ≡ reader.whole p
  pub more : (n b : ℕ) (rest : List ℕ) → reader.lines.cut n q (b ∷ rest) ≡ told reader p (Malformed n AfterEnd)
