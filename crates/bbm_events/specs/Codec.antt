-- Codecs: how a value is read from the fields of a line, which fields it has, and which values can stand there. A line is
-- a codec with nothing behind it.
-- Source: project's own choice.
use Rattle.std.specs.Prelude.{ℕ, List, [], ◌∷◌, ◌++◌, Bool, true, ◌&&◌, if◌then◌else◌, Option, Some, None, Result, Ok, Err}
use Rattle.std.specs.Prelude.{decimal}
use Rattle.bbm_events.specs.declared.malformed.Malformed.{Malformed}
use Rattle.bbm_events.specs.declared.malformed.Malformed.TheVariants.{UnknownWord, MissingField, ExtraField}
use Rattle.bbm_events.specs.Spelling.{hex, decimal_value, hex_value}
use Rattle.bbm_events.specs.Words.{with_word}

-- The first cause ends the reading of a line.
infixl 10 ◌>>=◌
abbrev pub ◌>>=◌ : {A B : Type 0} → Result A Malformed → (A → Result B Malformed) → Result B Malformed
(Ok x) >>= f = f x
(Err cause) >>= f = Err cause

-- what is left of a line
abbrev pub Fields : Type 0
Fields = List (List ℕ)

-- what is read of a line from its left: a value, and the fields that follow
abbrev pub FieldRead : Type 0 → Type 0
FieldRead A = Result (A × Fields) Malformed

-- the value with the fields that follow, or the cause where there is none
abbrev pub found : {A : Type 0} → Malformed → Option A → Fields → FieldRead A
found cause None rest = Err cause
found cause (Some value) rest = Ok (value, rest)

-- The next field, read; the first cause where it is absent, the second where it can't be read.
abbrev pub next_field : {A : Type 0} → Malformed → Malformed → (List ℕ → Option A) → Fields → FieldRead A
next_field absent unreadable read [] = Err absent
next_field absent unreadable read (text ∷ rest) = found unreadable (read text) rest

-- the value, where it passes the test
abbrev pub passing : {A : Type 0} → (A → Bool) → Option A → Option A
passing test None = None
passing test (Some value) = if test value then Some value else None

-- the value, where no field is left
abbrev pub whole : {A : Type 0} → A → Fields → Result A Malformed
whole value [] = Ok value
whole value (text ∷ rest) = Err ExtraField

-- how a value is read from the left of a line, the fields of a value, and which values can stand there
pub record Codec (A : Type 0) : Type 0 where
  pub read : Fields → FieldRead A
  pub written : A → Fields
  pub fits : A → Bool

-- one field, with the causes where it is absent and where it can't be read, its reader, and the one spelling of a value
abbrev pub field_or : {A : Type 0} → Malformed → Malformed → (List ℕ → Option A) → (A → List ℕ) → (A → Bool) → Codec A
field_or absent unreadable read spelling fits = record {
  read = next_field absent unreadable read;
  written = λ x. spelling x ∷ [];
  fits = fits;
}

-- one field of a line after the header
abbrev pub field : {A : Type 0} → Malformed → (List ℕ → Option A) → (A → List ℕ) → (A → Bool) → Codec A
field cause = field_or MissingField cause

-- a number in decimal, and in hex, that passes the test
abbrev pub decimals : Malformed → (ℕ → Bool) → Codec ℕ
decimals cause test = field cause (λ text. passing test (decimal_value text)) decimal test

abbrev pub hexes : Malformed → (ℕ → Bool) → Codec ℕ
hexes cause test = field cause (λ text. passing test (hex_value text)) hex test

-- one of these values, by its word
abbrev pub words : {A : Type 0} → (A → List ℕ) → List A → Codec A
words word values = field UnknownWord (with_word word values) word (λ _. true)

-- one of these that passes the test
abbrev pub some_words : {A : Type 0} → (A → List ℕ) → List A → (A → Bool) → Codec A
some_words word values test = field UnknownWord (λ text. passing test (with_word word values text)) word test

-- a value, and then another, whose codec the first one tells
infixl 5 ◌&>◌
abbrev pub ◌&>◌ : {A B : Type 0} → Codec A → (A → Codec B) → Codec (A × B)
first &> second = record {
  read = λ rest. first.read rest >>= (λ x. (second x.0).read x.1 >>= (λ y. Ok ((x.0, y.0), y.1)));
  written = λ x. first.written x.0 ++ (second x.0).written x.1;
  fits = λ x. first.fits x.0 && (second x.0).fits x.1;
}

-- a value, and then another
infixl 5 ◌&◌
abbrev pub ◌&◌ : {A B : Type 0} → Codec A → Codec B → Codec (A × B)
first & second = first &> (λ _. second)

-- a value that is told by another
abbrev pub mapped : {A B : Type 0} → Codec A → (A → B) → (B → A) → Codec B
mapped codec to from = record {
  read = λ rest. codec.read rest >>= (λ x. Ok (to x.0, x.1));
  written = λ y. codec.written (from y);
  fits = λ y. codec.fits (from y);
}

-- what a line says by a value, behind which no field is left
abbrev pub line : {A B : Type 0} → Codec A → (A → B) → Fields → Result B Malformed
line codec says rest = do
  x ← codec.read rest
  whole (says x.0) x.1
