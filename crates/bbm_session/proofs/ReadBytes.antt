-- Which bytes are read for what is said of a text: all of them where no line is named, and else those up to the line.
use Rattle.bbm_session.proofs.Common.{drop_of_length-le, plain, Reader, plain_lines, Breaks, Starves}
use Rattle.bbm_rules.proofs.Common.{◌≡◌, ◌⊎◌, ℕ, zero, suc, ◌+◌, ◌≤◌, ◌<◌, Bool, true, false, nat_eq, if◌then◌else◌}
use Rattle.bbm_rules.proofs.Common.{List, [], ◌∷◌, ◌++◌, length, drop, Option, Some, None, refl, ap, sym, ◌∙◌, subst}
use Rattle.bbm_rules.proofs.Common.{inl, inr, arith, append_assoc, append-nil, and_parts, nat_tests, Text, text_of}
use Rattle.bbm_rules.proofs.Common.{bytes_of, is_too_long, Fold, Turned, Halts, Passes, Ending, ending_after, ending_at}
use Rattle.bbm_rules.proofs.Common.{ending_from, lines_from}
use Rattle.bbm_rules.specs.Fold.{before_text, end_by}
use Rattle.bbm_session.specs.Run.{ReadToFault, ReadToWant}
use Rattle.bbm_session.specs.Stages.{Broke, Starved}
use Rattle.bbm_session.proofs.Stages.{turned-short, turned-long, end-short, end-long, seam, bytes_of-append}
use Rattle.bbm_session.proofs.Stages.{plain_lines-append, text_of-behind}
use Rattle.bbm_session.proofs.Texts.{plain-head, text_of-line, text_of-plain, bytes_of-text_of}
use Rattle.bbm_rules.proofs.Folds.{Named, NamedTurn}

-- ---- what was read, from line number n on, by the line that is named

abbrev FromTo : ℕ → ℕ → Text → List ℕ → Type 0
FromTo n line read unread =
    ((n + length read.lines ≡ suc line) × (read.rest ≡ []))
    ⊎ ((n + length read.lines ≡ line) × ((length read.rest ≡ 201) ⊎ (unread ≡ [])))

abbrev pub ByName : ℕ → Option ℕ → Text → List ℕ → Type 0
ByName n None read unread = unread ≡ []
ByName n (Some line) read unread = FromTo n line read unread

by_named : (n : ℕ) (name : Option ℕ) (read : Text) (unread : List ℕ) → name ≡ Some n → FromTo n n read unread → ByName n name read unread
by_named n name read unread is f = subst (λ (o : Option ℕ). ByName n o read unread) (sym is) f

longer_to : (n l : ℕ) (line : List ℕ) (lines : List (List ℕ)) (rest unread : List ℕ)
    → FromTo (suc n) l (record { lines = lines; rest = rest }) unread
    → FromTo n l (record { lines = line ∷ lines; rest = rest }) unread
longer_to n l line lines rest unread (inl (count, none)) = inl (omega (arith, count), none)
longer_to n l line lines rest unread (inr (count, end)) = inr (omega (arith, count), end)

longer : (n : ℕ) (name : Option ℕ) (line : List ℕ) (lines : List (List ℕ)) (rest unread : List ℕ)
    → ByName (suc n) name (record { lines = lines; rest = rest }) unread
    → ByName n name (record { lines = line ∷ lines; rest = rest }) unread
longer n None line lines rest unread f = f
longer n (Some l) line lines rest unread f = longer_to n l line lines rest unread f

-- the bytes that were read for what is said, if it names this line
record Read (n : ℕ) (name : Option ℕ) (unread bytes : List ℕ) : Type 0 where
  taken : List ℕ
  is : bytes ≡ taken ++ unread
  to : ByName n name (text_of taken) unread

-- ---- lines have no newline

plain_before : (b : ℕ) (lines : List (List ℕ)) (rest : List ℕ) → nat_eq b 10 ≡ false → plain_lines lines ≡ true → plain rest ≡ true
    → (plain_lines (before_text b lines rest).lines ≡ true) × (plain (before_text b lines rest).rest ≡ true)
plain_before b [] rest other ls r = (refl, rw (other, r) refl)
plain_before b (line ∷ lines) rest other ls r =
    let parts = and_parts (plain line) (plain_lines lines) ls in
    (rw (other, parts.0, parts.1) refl, r)

plain_step : (newline : Bool) (b : ℕ) (lines : List (List ℕ)) (rest : List ℕ) → nat_eq b 10 ≡ newline → plain_lines lines ≡ true → plain rest ≡ true
    → (plain_lines (if newline then record { lines = [] ∷ lines; rest = rest } else before_text b lines rest).lines ≡ true)
    × (plain (if newline then record { lines = [] ∷ lines; rest = rest } else before_text b lines rest).rest ≡ true)
plain_step true b lines rest test ls r = (ls, r)
plain_step false b lines rest test ls r = plain_before b lines rest test ls r

pub plain_text : (bytes : List ℕ) → (plain_lines (text_of bytes).lines ≡ true) × (plain (text_of bytes).rest ≡ true)
plain_text [] = (refl, refl)
plain_text (b ∷ bytes) =
    let rest = plain_text bytes in
    plain_step (nat_eq b 10) b (text_of bytes).lines (text_of bytes).rest refl rest.0 rest.1

-- ---- 201 bytes of a line

record Split (n : ℕ) (bytes : List ℕ) : Type 0 where
  piece : List ℕ
  more : List ℕ
  is : bytes ≡ piece ++ more
  long : length piece ≡ n
  clean : plain piece ≡ true

split : (n : ℕ) (bytes : List ℕ) → n ≤ length bytes → plain bytes ≡ true → Split n bytes
split zero bytes h p = record { piece = []; more = bytes; is = refl; long = refl; clean = refl }
split (suc n) [] h p = absurd (omega (arith, h))
split (suc n) (b ∷ bytes) h p =
    let parts = plain-head b bytes p in
    let s = split n bytes (omega (arith, h)) parts.1 in
    record {
      piece = b ∷ s.piece;
      more = s.more;
      is = ap (λ x. b ∷ x) s.is;
      long = ap suc s.long;
      clean = rw (parts.0, s.clean) refl;
    }

-- a long line is named: 201 bytes of it are read
read_long : (n : ℕ) (name : Option ℕ) (line more : List ℕ) → 200 < length line → plain line ≡ true → name ≡ Some n
    → Read n name (drop 201 (line ++ more)) (line ++ more)
read_long n name line more h p named =
    let s = split 201 line (omega (arith, h)) p in
    let whole : line ++ more ≡ s.piece ++ (s.more ++ more) = ap (λ x. x ++ more) s.is ∙ append_assoc s.piece s.more more in
    let unread : drop 201 (line ++ more) ≡ s.more ++ more = ap (λ x. drop 201 x) whole ∙ seam s.piece (s.more ++ more) s.long in
    record {
      taken = s.piece;
      is = whole ∙ ap (λ x. s.piece ++ x) (sym unread);
      to = by_named n name (text_of s.piece) (drop 201 (line ++ more)) named
          (rw (text_of-plain s.piece s.clean) (inr (omega arith, inl s.long)));
    }

-- a line is named
read_line : (n : ℕ) (name : Option ℕ) (line more : List ℕ) → plain line ≡ true → name ≡ Some n → Read n name more (line ++ 10 ∷ more)
read_line n name line more p named = record {
  taken = line ++ 10 ∷ [];
  is = sym (append_assoc line (10 ∷ []) more);
  to = by_named n name (text_of (line ++ 10 ∷ [])) more named (rw (text_of-line line [] p) (inl (omega arith, refl)));
}

-- the input ends
by_cut : (n : ℕ) (name : Option ℕ) (rest unread : List ℕ) → plain rest ≡ true → unread ≡ [] → (name ≡ Some n) ⊎ (name ≡ None) → ByName n name (text_of rest) unread
by_cut n name rest unread clean none (inl is) =
    by_named n name (text_of rest) unread is (rw (text_of-plain rest clean) (inr (omega arith, inr none)))
by_cut n name rest unread clean none (inr is) = subst (λ (o : Option ℕ). ByName n o (text_of rest) unread) (sym is) none

module _ {P V : Type 0} (fold : Fold P V) where
  module _ (names : V → Option ℕ) (named : Named fold names) where
    abbrev ReadBy : ℕ → Ending V → List ℕ → Type 0
    ReadBy n o bytes = Read n (names o.says) o.unread bytes

    read_end : (n : ℕ) (p : P) (rest : List ℕ) (b : Bool) → is_too_long rest ≡ b → plain rest ≡ true
        → ReadBy n (record { says = end_by fold n p rest; unread = drop 201 rest }) rest
    read_end n p rest true long clean =
        let h : 200 < length rest = grind (arith, nat_tests) in
        let whole : rest ++ [] ≡ rest = append-nil rest in
        let name : names (end_by fold n p rest) ≡ Some n = ap names (end-long fold n p rest h) ∙ named.long n p in
        subst (λ x. Read n (names (end_by fold n p rest)) (drop 201 x) x) whole
        (read_long n (names (end_by fold n p rest)) rest [] h clean name)
    read_end n p rest false long clean =
        let h : length rest ≤ 200 = grind (arith, nat_tests) in
        let none : drop 201 rest ≡ [] = drop_of_length-le rest {i = 201} (omega (arith, h)) in
        rw (end-short fold n p rest h) (record {
          taken = rest;
          is = sym (append-nil rest) ∙ ap (λ x. rest ++ x) (sym none);
          to = by_cut n (names (fold.cut n p rest)) rest (drop 201 rest) clean none (named.cut n p rest);
        })

    -- ---- the lines, one after another

    module _ (n : ℕ) (p : P) (line : List ℕ) (lines : List (List ℕ)) (rest : List ℕ) where
      abbrev Behind : Type 0
      Behind = (next : P) → ReadBy (suc n) (ending_from fold (suc n) next lines rest) (bytes_of lines rest)

      by_turn : (t : Turned P V) → NamedTurn names n t → is_too_long line ≡ false → plain line ≡ true → Behind
          → ReadBy n (ending_after line lines rest (λ next. ending_from fold (suc n) next lines rest) t) (line ++ 10 ∷ bytes_of lines rest)
      by_turn (Halts v) says short clean behind = rw short (read_line n (names v) line (bytes_of lines rest) clean says)
      by_turn (Passes next) says short clean behind =
          let k = behind next in
          let o = ending_from fold (suc n) next lines rest in
          record {
            taken = line ++ 10 ∷ k.taken;
            is = ap (λ x. line ++ 10 ∷ x) k.is ∙ sym (append_assoc line (10 ∷ k.taken) o.unread);
            to = rw (text_of-line line k.taken clean)
                (longer n (names o.says) line (text_of k.taken).lines (text_of k.taken).rest o.unread k.to);
          }

      by_length : (b : Bool) → is_too_long line ≡ b → plain line ≡ true → Behind
          → ReadBy n (ending_from fold n p (line ∷ lines) rest) (line ++ 10 ∷ bytes_of lines rest)
      by_length true long clean behind =
          let h : 200 < length line = grind (arith, nat_tests) in
          rw (turned-long fold n p line h, long)
          (read_long n (names (fold.long n p)) line (10 ∷ bytes_of lines rest) h clean (named.long n p))
      by_length false short clean behind =
          let h : length line ≤ 200 = grind (arith, nat_tests) in
          rw (turned-short fold n p line h) (by_turn (fold.line n p line) (named.line n p line) short clean behind)

    reads : (n : ℕ) (p : P) (lines : List (List ℕ)) (rest : List ℕ) → plain_lines lines ≡ true → plain rest ≡ true
        → ReadBy n (ending_from fold n p lines rest) (bytes_of lines rest)
    reads n p [] rest ls r = read_end n p rest (is_too_long rest) refl r
    reads n p (line ∷ lines) rest ls r =
        let parts = and_parts (plain line) (plain_lines lines) ls in
        by_length n p line lines rest (is_too_long line) refl parts.0 (λ next. reads (suc n) next lines rest parts.1 r)

    -- what was read of these bytes, from line 1 on
    pub read-by : (start : P) (bytes : List ℕ) → (taken : List ℕ) × (bytes ≡ taken ++ (ending_at fold 1 start bytes).unread)
        × ByName 1 (names (ending_at fold 1 start bytes).says) (text_of taken) (ending_at fold 1 start bytes).unread
    read-by start bytes =
        let clean = plain_text bytes in
        let k = reads 1 start (text_of bytes).lines (text_of bytes).rest clean.0 clean.1 in
        (k.taken, sym (bytes_of-text_of bytes) ∙ k.is, k.to)

-- ---- of a text whose reading stopped before anything was said

bytes_of-behind : (lines : List (List ℕ)) (piece rest : List ℕ) → bytes_of lines (piece ++ rest) ≡ bytes_of lines piece ++ rest
bytes_of-behind [] piece rest = refl
bytes_of-behind (line ∷ lines) piece rest =
    ap (λ x. line ++ 10 ∷ x) (bytes_of-behind lines piece rest) ∙ sym (append_assoc line (10 ∷ bytes_of lines piece) rest)

pub text_of-bytes_of : (lines : List (List ℕ)) (rest : List ℕ) → plain_lines lines ≡ true → plain rest ≡ true
    → text_of (bytes_of lines rest) ≡ record { lines = lines; rest = rest }
text_of-bytes_of lines rest clean r = rw (text_of-behind lines rest clean, text_of-plain rest r, append-nil lines) refl

module _ {P V : Type 0} (reader : Reader P V) (start : P) where
  -- a read failed: none of the lines that were read halts
  fault_at : (bytes rest : List ℕ) → Broke reader 1 start bytes rest → ReadToFault reader.lines start bytes (Some rest)
  fault_at bytes rest broke =
      let lines = broke.passed.lines in
      let text = text_of-bytes_of lines broke.piece broke.passed.clean broke.clean in
      record {
        part = record {
          read = bytes_of lines broke.piece;
          unread = rest;
          is = broke.passed.is ∙ bytes_of-behind lines broke.piece rest;
          now = refl;
        };
        reached = broke.reached;
        undecided = ap (λ (t : Text). lines_from reader.lines 1 start t.lines) text ∙ broke.passed.read;
        short = subst (λ (t : Text). length t.rest ≤ 200) (sym text) broke.short;
      }

  pub to_fault : (bytes : List ℕ) (left : Option (List ℕ)) → Breaks reader 1 start (Some bytes) left → ReadToFault reader.lines start bytes left
  to_fault bytes None breaks = absurd breaks
  to_fault bytes (Some rest) breaks = fault_at bytes rest breaks

  -- there was no memory for a line: what was read ends with it
  module _ (Needs : ℕ → P → List ℕ → Type 0) (needing : (n : ℕ) (p : P) (line : List ℕ) → reader.needs n p line ≡ true → Needs n p line) where
    want_at : (bytes rest : List ℕ) → Starved reader 1 start bytes rest → ReadToWant reader.lines start Needs bytes (Some rest)
    want_at bytes rest starved =
        let lines = starved.passed.lines in
        let line = starved.line in
        let whole : List (List ℕ) = lines ++ line ∷ [] in
        let last : plain_lines (line ∷ []) ≡ true = rw starved.clean refl in
        let text = text_of-bytes_of whole [] (plain_lines-append lines (line ∷ []) starved.passed.clean last) refl in
        let behind : bytes_of lines (line ++ 10 ∷ rest) ≡ bytes_of whole [] ++ rest =
        ap (bytes_of lines) (sym (append_assoc line (10 ∷ []) rest)) ∙ bytes_of-behind lines (line ++ 10 ∷ []) rest
        ∙ ap (λ x. x ++ rest) (sym (bytes_of-append lines (line ∷ []) [])) in
        let at : starved.at ≡ suc (length lines) = omega (arith, starved.passed.count) in
        record {
          part = record { read = bytes_of whole []; unread = rest; is = starved.passed.is ∙ behind; now = refl };
          before = lines;
          line = line;
          reached = starved.reached;
          lines = text;
          undecided = starved.passed.read;
          short = starved.short;
          needs = needing (suc (length lines)) starved.reached line (subst (λ (n : ℕ). reader.needs n starved.reached line ≡ true) at starved.needs);
        }

    pub to_want : (bytes : List ℕ) (left : Option (List ℕ)) → Starves reader 1 start (Some bytes) left → ReadToWant reader.lines start Needs bytes left
    to_want bytes None starves = absurd starves
    to_want bytes (Some rest) starves = want_at bytes rest starves
