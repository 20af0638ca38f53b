-- The lines of a text, read from its front.
use Rattle.bbm_session.proofs.Common.{plain}
use Rattle.bbm_rules.proofs.Common.{◌≡◌, ℕ, Bool, true, false, if◌then◌else◌, arith, ◌&&◌, not, nat_eq, List, [], ◌∷◌}
use Rattle.bbm_rules.proofs.Common.{◌++◌, refl, ap, sym, ◌∙◌, nat_tests, proved, If, Is, Text, text_of, bytes_of}
use Rattle.bbm_rules.specs.Fold.{before_text}
use Rattle.bbm_lemmas.proofs.Tautologies.Claim.{Both}

both : (x y : Bool) → (not x && y) ≡ true → (x ≡ false) × (y ≡ true)
both = proved 2 (λ x y. If (Is (not x && y) true) (Both (Is x false) (Is y true))) refl

-- of a plain line that begins with a byte: the byte is no newline, and the rest is plain
pub plain-head : (b : ℕ) (bs : List ℕ) → plain (b ∷ bs) ≡ true → (nat_eq b 10 ≡ false) × (plain bs ≡ true)
plain-head b bs h = both (nat_eq b 10) (plain bs) h

-- a line and its newline are the first line
pub text_of-line : (line rest : List ℕ) → plain line ≡ true → text_of (line ++ 10 ∷ rest) ≡ record { lines = line ∷ (text_of rest).lines; rest = (text_of rest).rest }
text_of-line [] rest h = refl
text_of-line (b ∷ bs) rest h =
    let p = plain-head b bs h in
    rw (p.0, text_of-line bs rest p.1) refl

-- bytes without a newline are no line
pub text_of-plain : (line : List ℕ) → plain line ≡ true → text_of line ≡ record { lines = []; rest = line }
text_of-plain [] h = refl
text_of-plain (b ∷ bs) h =
    let p = plain-head b bs h in
    rw (p.0, text_of-plain bs p.1) refl

bytes_of-before : (b : ℕ) (lines : List (List ℕ)) (rest : List ℕ) → bytes_of (before_text b lines rest).lines (before_text b lines rest).rest ≡ b ∷ bytes_of lines rest
bytes_of-before b [] rest = refl
bytes_of-before b (line ∷ lines) rest = refl

bytes_of-step : (newline : Bool) (b : ℕ) (lines : List (List ℕ)) (rest : List ℕ) → (newline ≡ true → b ≡ 10) → bytes_of (if newline then record { lines = [] ∷ lines; rest = rest } else before_text b lines rest).lines (if newline then record { lines = [] ∷ lines; rest = rest } else before_text b lines rest).rest ≡ b ∷ bytes_of lines rest
bytes_of-step true b lines rest h = ap (λ x. x ∷ bytes_of lines rest) (sym (h refl))
bytes_of-step false b lines rest h = bytes_of-before b lines rest

-- the bytes of the lines of a text are the text
pub bytes_of-text_of : (bytes : List ℕ) → bytes_of (text_of bytes).lines (text_of bytes).rest ≡ bytes
bytes_of-text_of [] = refl
bytes_of-text_of (b ∷ bs) =
    bytes_of-step (nat_eq b 10) b (text_of bs).lines (text_of bs).rest (λ same. grind (arith, nat_tests))
    ∙ ap (λ x. b ∷ x) (bytes_of-text_of bs)

-- a text with these bytes before it
abbrev pub prefixed : List ℕ → List (List ℕ) → List ℕ → Text
prefixed piece [] rest = record { lines = []; rest = piece ++ rest }
prefixed piece (line ∷ lines) rest = record { lines = (piece ++ line) ∷ lines; rest = rest }

before-prefixed : (b : ℕ) (piece : List ℕ) (lines : List (List ℕ)) (rest : List ℕ) → before_text b (prefixed piece lines rest).lines (prefixed piece lines rest).rest ≡ prefixed (b ∷ piece) lines rest
before-prefixed b piece [] rest = refl
before-prefixed b piece (line ∷ lines) rest = refl

prefixed-nothing : (lines : List (List ℕ)) (rest : List ℕ) → record { lines = lines; rest = rest } ≡ prefixed [] lines rest
prefixed-nothing [] rest = refl
prefixed-nothing (line ∷ lines) rest = refl

-- bytes without a newline go before the first line
pub text_of-prefix : (piece rest : List ℕ) → plain piece ≡ true → text_of (piece ++ rest) ≡ prefixed piece (text_of rest).lines (text_of rest).rest
text_of-prefix [] rest h = prefixed-nothing (text_of rest).lines (text_of rest).rest
text_of-prefix (b ∷ bs) rest h =
    let p = plain-head b bs h in
    rw (p.0, text_of-prefix bs rest p.1) (before-prefixed b bs (text_of rest).lines (text_of rest).rest)
