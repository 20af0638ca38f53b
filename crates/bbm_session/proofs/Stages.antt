-- How what is said of a text goes on after one line, over what a source had left and has left, for any fold over the
-- lines of a log.
use Rattle.bbm_session.proofs.Common.{IfErr, drop_of_length-le, plain, Heading, Verdict, Accepted, Refused, Malformed}
use Rattle.bbm_session.proofs.Common.{Limit, heading_in, Decision, Stop, Decided, ReadFault, NoMemory, Turn, Taken, End}
use Rattle.bbm_session.proofs.Common.{Reader, alone, IsStart, IsInside, IsEnd, plain_lines, Breaks, Starves, Shrinks}
use Rattle.bbm_session.proofs.Common.{Concludes, Stops, IsBrief, KnowsWhy, RefusedOn, ReadsHeader, HeaderLine, Starts}
use Rattle.bbm_session.proofs.Common.{FoldsLine, Going, Ends, KnowsThat, Heads}
use Rattle.bbm_rules.proofs.Common.{◌≡◌, ℕ, suc, ◌<◌, ◌≤◌, ◌+◌, true, false, nat_eq, List, [], ◌++◌, length, drop}
use Rattle.bbm_rules.proofs.Common.{Option, Some, None, refl, ap, sym, ◌∙◌, arith, append_assoc, append-nil}
use Rattle.bbm_rules.proofs.Common.{length-append, add-one, subst, ◌∷◌, Result, Ok, Err, result_ok, and_parts}
use Rattle.bbm_rules.proofs.Common.{nat_tests, text_of, bytes_of, is_too_long, Fold, Turned, Halts, Passes, Ending}
use Rattle.bbm_rules.proofs.Common.{ending_after, ending_from, ending_at, passes_to, lines_from, header_by}
use Rattle.std.proofs.Math.Seq.{drop-append_seam}
use Rattle.bbm_io.specs.Faults.{Rose}
use Rattle.bbm_io.specs.Flow.{preceded}
use Rattle.bbm_io.proofs.Flow.{plain-append, preceded-append}
use Rattle.bbm_regimes.specs.declared.regime.Which.TheVariants.{LineBytes}
use Rattle.bbm_events.specs.declared.malformed.Malformed.{Malformed as Cause}
use Rattle.bbm_events.specs.declared.malformed.Malformed.TheVariants.{NoEnd, AfterEnd}
use Rattle.bbm_events.specs.Lines.{header_of}
use Rattle.bbm_session.specs.declared.line.Piece.{Piece}
use Rattle.bbm_session.specs.declared.line.Piece.TheVariants as piece
use Rattle.bbm_rules.proofs.Folds.{passed}
use Rattle.bbm_rules.specs.Fold.{turned_by, end_by}
use Rattle.bbm_session.specs.Reader.{told}
use Rattle.bbm_session.specs.Pieces.{Takes}
use Rattle.bbm_session.specs.Stages.{Passed, Continues, Advances, Reaches, Closes}
use Rattle.bbm_texts.specs.Known.{EndsThere}
use Rattle.bbm_session.proofs.Texts.{text_of-line, text_of-plain, text_of-prefix, bytes_of-text_of}
use Rattle.bbm_session.proofs.Texts.{prefixed}

short : (line : List ℕ) → length line ≤ 200 → is_too_long line ≡ false
short line h = grind (arith, nat_tests)

long : (line : List ℕ) → 200 < length line → is_too_long line ≡ true
long line h = grind (arith, nat_tests)

pub bytes_of-append : (lines more : List (List ℕ)) (rest : List ℕ) → bytes_of (lines ++ more) rest ≡ bytes_of lines (bytes_of more rest)
bytes_of-append [] more rest = refl
bytes_of-append (line ∷ lines) more rest = ap (λ x. line ++ 10 ∷ x) (bytes_of-append lines more rest)

pub plain_lines-append : (lines more : List (List ℕ)) → plain_lines lines ≡ true → plain_lines more ≡ true → plain_lines (lines ++ more) ≡ true
plain_lines-append [] more one two = two
plain_lines-append (line ∷ lines) more one two =
    let parts = and_parts (plain line) (plain_lines lines) one in
    rw (parts.0, plain_lines-append lines more parts.1 two) refl

-- what was left, where what is left is told
some-preceded : (bytes taken rest : List ℕ) → Some bytes ≡ preceded taken (Some rest) → bytes ≡ taken ++ rest
some-preceded bytes taken rest h = cc

pub seam : (line rest : List ℕ) → length line ≡ 201 → drop 201 (line ++ rest) ≡ rest
seam line rest is_long = ap (λ n. drop n (line ++ rest)) (sym is_long) ∙ drop-append_seam line rest

longer : (line more : List ℕ) → length line ≡ 201 → 200 < length (line ++ more)
longer line more is_long = omega (arith, length-append line more)

pub shrinks-trans : (a b most : ℕ) (old mid new : Option (List ℕ)) → a + b ≤ most → Shrinks a old mid → Shrinks b mid new → Shrinks most old new
shrinks-trans a b most old mid new within first second = (
  first.0 ++ second.0,
  first.1 ∙ ap (preceded first.0) second.1 ∙ preceded-append first.0 second.0 new,
  omega (arith, length-append first.0 second.0, first.2, second.2, within),
)

-- what one call takes
pub takes-shrinks : (p : Piece) (kept : List ℕ) (old new : Option (List ℕ)) → length kept ≤ 200 → Takes p kept old new → Shrinks 201 old new
takes-shrinks piece.Line kept old new is_short takes = (kept ++ 10 ∷ [], takes, omega (arith, length-append kept (10 ∷ []), is_short))
takes-shrinks piece.Rest kept old new is_short takes = (kept, takes.0, omega (arith, is_short))
takes-shrinks piece.TooLong kept old new is_short takes = (kept ++ takes.0 ∷ [], takes.1.taken, omega (arith, length-append kept (takes.0 ∷ []), is_short))
takes-shrinks piece.ReadFault kept old new is_short takes = (kept, takes, omega (arith, is_short))

no-bytes : (line : List ℕ) → nat_eq (length line) 0 ≡ true → line ≡ []
no-bytes [] empty = refl
no-bytes (b ∷ bs) empty = absurd (grind (arith, nat_tests))

-- the lines of bytes that begin with whole lines
pub text_of-behind : (lines : List (List ℕ)) (rest : List ℕ) → plain_lines lines ≡ true
    → text_of (bytes_of lines rest) ≡ record { lines = lines ++ (text_of rest).lines; rest = (text_of rest).rest }
text_of-behind [] rest clean = refl
text_of-behind (line ∷ lines) rest clean =
    let parts = and_parts (plain line) (plain_lines lines) clean in
    rw (text_of-line line (bytes_of lines rest) parts.0, text_of-behind lines rest parts.1) refl

module _ {P V : Type 0} (fold : Fold P V) where
  pub turned-short : (n : ℕ) (p : P) (line : List ℕ) → length line ≤ 200 → turned_by fold n p line ≡ fold.line n p line
  unfolding turned_by
  turned-short n p line h = rw (short line h) refl

  pub turned-long : (n : ℕ) (p : P) (line : List ℕ) → 200 < length line → turned_by fold n p line ≡ Halts (fold.long n p)
  unfolding turned_by
  turned-long n p line h = rw (long line h) refl

  pub end-short : (n : ℕ) (p : P) (rest : List ℕ) → length rest ≤ 200 → end_by fold n p rest ≡ fold.cut n p rest
  unfolding end_by
  end-short n p rest h = rw (short rest h) refl

  pub end-long : (n : ℕ) (p : P) (rest : List ℕ) → 200 < length rest → end_by fold n p rest ≡ fold.long n p
  unfolding end_by
  end-long n p rest h = rw (long rest h) refl

  pub ending-line : (n : ℕ) (p : P) (line rest : List ℕ) → plain line ≡ true → length line ≤ 200 → ending_at fold n p (line ++ 10 ∷ rest) ≡ ending_after line (text_of rest).lines (text_of rest).rest (λ next. ending_at fold (suc n) next rest) (fold.line n p line)
  ending-line n p line rest is_plain is_short =
      rw (text_of-line line rest is_plain, turned-short n p line is_short) refl

  -- behind whole lines, of which none halts
  ending-passed : (n m : ℕ) (p p' : P) (lines : List (List ℕ)) (rest : List ℕ) → plain_lines lines ≡ true
      → m ≡ n + length lines → lines_from fold n p lines ≡ Some p'
      → ending_at fold n p (bytes_of lines rest) ≡ ending_at fold m p' rest
  ending-passed n m p p' lines rest clean count read = rw (text_of-behind lines rest clean)
      (passed fold n m p p' lines (text_of rest).lines (text_of rest).rest count read)

  read-step : (n : ℕ) (mid p' : P) (lines more : List (List ℕ)) (s : Turned P V) → ((next : P) → lines_from fold (suc n) next lines ≡ Some mid → lines_from fold (suc n) next (lines ++ more) ≡ Some p') → passes_to (λ next. lines_from fold (suc n) next lines) s ≡ Some mid → passes_to (λ next. lines_from fold (suc n) next (lines ++ more)) s ≡ Some p'
  read-step n mid p' lines more (Halts v) behind read = cc
  read-step n mid p' lines more (Passes next) behind read = behind next read

  read-append : (n m : ℕ) (p mid p' : P) (lines more : List (List ℕ)) → m ≡ n + length lines → lines_from fold n p lines ≡ Some mid → lines_from fold m mid more ≡ Some p' → lines_from fold n p (lines ++ more) ≡ Some p'
  read-append n m p mid p' [] more count one two =
      let same : p ≡ mid = cc in
      let here : n ≡ m = omega (arith, count) in
      rw (same, here) two
  read-append n m p mid p' (line ∷ lines) more count one two =
      read-step n mid p' lines more (turned_by fold n p line) (λ next further. read-append (suc n) m next mid p' lines more (omega (arith, count)) further two) one

module _ {P V : Type 0} (reader : Reader P V) where
  -- nothing is known of a cause for which nothing is said behind the verdict
  brief-that : (known : Type 0) (n : ℕ) (p : P) (d : Decision) (v : Verdict) → EndsThere v → KnowsThat known v × RefusedOn reader n p d v
  brief-that known n p d (Accepted events) brief = absurd brief
  brief-that known n p d (Refused line rule at label) brief = absurd brief
  brief-that known n p d (Malformed line cause) brief = (tt, tt)
  brief-that known n p d (Limit line which) brief = (tt, tt)

  pub brief-knows : (stands : P → ℕ → Type 0) (n : ℕ) (p : P) (s : Stop) → IsBrief s → KnowsWhy reader stands n p s
  brief-knows stands n p (Decided d) brief = brief-that (stands p n) n p d d.verdict brief
  brief-knows stands n p ReadFault brief = tt
  brief-knows stands n p NoMemory brief = tt

  -- a line decides so
  refused-on : (n : ℕ) (p : P) (d : Decision) (line : List ℕ) (v : Verdict) → reader.lines.line n p line ≡ Halts (reader.stopped p d) → RefusedOn reader n p d v
  refused-on n p d line (Accepted events) is = tt
  refused-on n p d line (Refused number rule at label) is = (line, is)
  refused-on n p d line (Malformed number cause) is = tt
  refused-on n p d line (Limit number which) is = tt

  -- Whole lines, of which none halts.

  passed-none : (n : ℕ) (p : P) (bytes : List ℕ) → Passed reader n p bytes n p bytes
  passed-none n p bytes = record { lines = []; clean = refl; is = refl; count = omega arith; read = refl }

  passed-line : (n : ℕ) (p p' : P) (line rest : List ℕ) → plain line ≡ true → length line ≤ 200 → reader.lines.line n p line ≡ Passes p' → Passed reader n p (line ++ 10 ∷ rest) (suc n) p' rest
  passed-line n p p' line rest is_plain is_short step = record {
    lines = line ∷ [];
    clean = rw is_plain refl;
    is = refl;
    count = omega arith;
    read = ap (passes_to (λ next. lines_from reader.lines (suc n) next [])) (turned-short reader.lines n p line is_short ∙ step);
  }

  passed-ending : (n m : ℕ) (p p' : P) (bytes rest : List ℕ) → Passed reader n p bytes m p' rest → ending_at reader.lines n p bytes ≡ ending_at reader.lines m p' rest
  passed-ending n m p p' bytes rest passed =
      ap (ending_at reader.lines n p) passed.is ∙ ending-passed reader.lines n m p p' passed.lines rest passed.clean passed.count passed.read

  passed-trans : (n1 n2 n3 : ℕ) (p1 p2 p3 : P) (a b c : List ℕ) → Passed reader n1 p1 a n2 p2 b → Passed reader n2 p2 b n3 p3 c → Passed reader n1 p1 a n3 p3 c
  passed-trans n1 n2 n3 p1 p2 p3 a b c one two = record {
    lines = one.lines ++ two.lines;
    clean = plain_lines-append one.lines two.lines one.clean two.clean;
    is = one.is ∙ ap (bytes_of one.lines) two.is ∙ sym (bytes_of-append one.lines two.lines c);
    count = omega (arith, one.count, two.count, length-append one.lines two.lines);
    read = read-append reader.lines n1 n2 p1 p2 p3 one.lines two.lines one.count one.read two.read;
  }

  -- a line with which reading goes on
  line-passes : (n : ℕ) (p p' : P) (line : List ℕ) (old new : Option (List ℕ)) → plain line ≡ true → length line ≤ 200 → old ≡ preceded (line ++ 10 ∷ []) new → reader.lines.line n p line ≡ Passes p' → Continues reader n p old (suc n) p' new
  line-passes n p p' line None new is_plain is_short taken step = tt
  line-passes n p p' line (Some bytes) None is_plain is_short taken step = cc
  line-passes n p p' line (Some bytes) (Some rest) is_plain is_short taken step =
      let bytes_are : bytes ≡ line ++ 10 ∷ rest = some-preceded bytes (line ++ 10 ∷ []) rest taken ∙ append_assoc line (10 ∷ []) rest in
      subst (λ (b : List ℕ). Passed reader n p b (suc n) p' rest) (sym bytes_are) (passed-line n p p' line rest is_plain is_short step)

  concludes-at : (n : ℕ) (p : P) (bytes rest : List ℕ) (v : V) (ending : Ending V) → ending_at reader.lines n p bytes ≡ ending → ending.says ≡ v → ending.unread ≡ rest → Concludes reader n p (Some bytes) v (Some rest)
  concludes-at n p bytes rest v ending is says unread = (ap (λ (o : Ending V). o.says) is ∙ says, ap (λ (o : Ending V). o.unread) is ∙ unread)

  -- a line that halts
  line-halts : (n : ℕ) (p : P) (v : V) (line : List ℕ) (old new : Option (List ℕ)) → plain line ≡ true → length line ≤ 200 → old ≡ preceded (line ++ 10 ∷ []) new → reader.lines.line n p line ≡ Halts v → Concludes reader n p old v new
  line-halts n p v line None new is_plain is_short taken step = tt
  line-halts n p v line (Some bytes) None is_plain is_short taken step = cc
  line-halts n p v line (Some bytes) (Some rest) is_plain is_short taken step =
      let bytes_are : bytes ≡ line ++ 10 ∷ rest = some-preceded bytes (line ++ 10 ∷ []) rest taken ∙ append_assoc line (10 ∷ []) rest in
      let ending_is = ending-line reader.lines n p line rest is_plain is_short ∙ ap (ending_after line (text_of rest).lines (text_of rest).rest (λ next. ending_at reader.lines (suc n) next rest)) step in
      rw bytes_are (concludes-at n p (line ++ 10 ∷ rest) rest v _ ending_is refl (rw (short line is_short) (bytes_of-text_of rest)))

  ending-end : (n : ℕ) (p : P) (line : List ℕ) → plain line ≡ true → length line ≤ 200 → ending_at reader.lines n p line ≡ record { says = reader.lines.cut n p line; unread = [] }
  ending-end n p line is_plain is_short =
      let nothing : drop 201 line ≡ [] = drop_of_length-le line {i = 201} (omega arith) in
      rw (text_of-plain line is_plain, end-short reader.lines n p line is_short, nothing) refl

  -- the end of the input, after at most 200 bytes
  end-halts : (n : ℕ) (p : P) (v : V) (line : List ℕ) (old new : Option (List ℕ)) → plain line ≡ true → length line ≤ 200 → Takes piece.Rest line old new → reader.lines.cut n p line ≡ v → Concludes reader n p old v new
  end-halts n p v line None new is_plain is_short takes cut = tt
  end-halts n p v line (Some bytes) None is_plain is_short takes cut = let taken = takes.0 in cc
  end-halts n p v line (Some bytes) (Some rest) is_plain is_short takes cut =
      let bytes_are : bytes ≡ line = some-preceded bytes line rest takes.0 ∙ ap (λ x. line ++ x) takes.1 ∙ append-nil line in
      let ending_is = ending-end n p line is_plain is_short in
      rw (bytes_are, takes.1) (concludes-at n p line [] v _ ending_is cut refl)

  long-at : (n : ℕ) (p : P) (line : List ℕ) (lines : List (List ℕ)) (rest : List ℕ) → length line ≡ 201 → ((ending_from reader.lines n p (prefixed line lines rest).lines (prefixed line lines rest).rest).says ≡ reader.lines.long n p) × ((ending_from reader.lines n p (prefixed line lines rest).lines (prefixed line lines rest).rest).unread ≡ bytes_of lines rest)
  long-at n p line [] rest is_long = (end-long reader.lines n p (line ++ rest) (longer line rest is_long), seam line rest is_long)
  long-at n p line (first ∷ lines) rest is_long =
      let too_long = longer line first is_long in
      let unread : drop 201 ((line ++ first) ++ 10 ∷ bytes_of lines rest) ≡ first ++ 10 ∷ bytes_of lines rest =
      ap (λ x. drop 201 x) (append_assoc line first (10 ∷ bytes_of lines rest)) ∙ seam line (first ++ 10 ∷ bytes_of lines rest) is_long in
      rw (turned-long reader.lines n p (line ++ first) too_long, long (line ++ first) too_long) (refl, unread)

  -- 201 bytes without a newline
  long-halts : (n : ℕ) (p : P) (line : List ℕ) (old new : Option (List ℕ)) → plain line ≡ true → length line ≡ 201 → old ≡ preceded line new → Concludes reader n p old (reader.lines.long n p) new
  long-halts n p line None new is_plain is_long taken = tt
  long-halts n p line (Some bytes) None is_plain is_long taken = cc
  long-halts n p line (Some bytes) (Some rest) is_plain is_long taken =
      let bytes_are : bytes ≡ line ++ rest = some-preceded bytes line rest taken in
      let parts = long-at n p line (text_of rest).lines (text_of rest).rest is_long in
      rw (bytes_are, text_of-prefix line rest is_plain) (parts.0, parts.1 ∙ bytes_of-text_of rest)

  -- One piece, by what stood there.

  rest-stops : (n : ℕ) (p q : P) (v : Decision) (line : List ℕ) (old new : Option (List ℕ)) (f f' : ℕ) → reader.lines.cut n p line ≡ reader.stopped q v → plain line ≡ true → length line ≤ 200 → Takes piece.Rest line old new → f' ≡ f → Stops reader n p old (Decided v) q new f f'
  rest-stops n p q v line old new f f' cut is_plain is_short takes sound =
      (end-halts n p (reader.stopped q v) line old new is_plain is_short takes cut, sound)

  long-stops : (n : ℕ) (p q : P) (v : Decision) (line : List ℕ) (old new : Option (List ℕ)) (f f' : ℕ) → reader.lines.long n p ≡ reader.stopped q v → plain line ≡ true → Takes piece.TooLong line old new → f' ≡ f → Stops reader n p old (Decided v) q new f f'
  long-stops n p q v line old new f f' too_long is_plain takes sound =
      let long_line = long-halts n p (line ++ takes.0 ∷ []) old new (plain-append line takes.0 is_plain takes.1.no_newline) (omega (arith, length-append line (takes.0 ∷ []), takes.1.kept_bytes)) takes.1.taken in
      (subst (λ (w : V). Concludes reader n p old w new) too_long long_line, sound)

  -- a read failed
  fault-stops : (n : ℕ) (p q : P) (kept : List ℕ) (old new : Option (List ℕ)) (f f' : ℕ) → plain kept ≡ true → length kept ≤ 200 → Takes piece.ReadFault kept old new → Rose f f' → Stops reader n p old ReadFault q new f f'
  fault-stops n p q kept None new f f' is_plain is_short takes rose = (tt, rose)
  fault-stops n p q kept (Some bytes) None f f' is_plain is_short takes rose = cc
  fault-stops n p q kept (Some bytes) (Some rest) f f' is_plain is_short takes rose =
      let passed = subst (λ (b : List ℕ). Passed reader n p b n p (kept ++ rest)) (sym (some-preceded bytes kept rest takes)) (passed-none n p (kept ++ rest)) in
      (record { at = n; reached = p; piece = kept; passed = passed; clean = is_plain; short = is_short }, rose)

  -- there was no memory for a line
  want-stops : (n : ℕ) (p q : P) (line : List ℕ) (old new : Option (List ℕ)) (f f' : ℕ) → plain line ≡ true → length line ≤ 200 → Takes piece.Line line old new → reader.needs n p line ≡ true → f' ≡ f → Stops reader n p old NoMemory q new f f'
  want-stops n p q line None new f f' is_plain is_short takes needs sound = (tt, sound)
  want-stops n p q line (Some bytes) None f f' is_plain is_short takes needs sound = cc
  want-stops n p q line (Some bytes) (Some rest) f f' is_plain is_short takes needs sound =
      let bytes_are : bytes ≡ line ++ 10 ∷ rest = some-preceded bytes (line ++ 10 ∷ []) rest takes ∙ append_assoc line (10 ∷ []) rest in
      let passed = subst (λ (b : List ℕ). Passed reader n p b n p (line ++ 10 ∷ rest)) (sym bytes_are) (passed-none n p (line ++ 10 ∷ rest)) in
      (record { at = n; reached = p; line = line; passed = passed; clean = is_plain; short = is_short; needs = needs }, sound)

  -- The header.

  header-refused : (start : P) (begun : Heading → P) (v : Decision) (read : Result Heading Cause) (line : List ℕ) (old new : Option (List ℕ)) → reader.lines.line 1 start line ≡ header_by begun (told reader start) 1 read → plain line ≡ true → length line ≤ 200 → Takes piece.Line line old new → (cause : Cause) → read ≡ Err cause → v ≡ alone (Malformed 1 cause) → Concludes reader 1 start old (reader.stopped start v) new
  header-refused start begun v read line old new says is_plain is_short takes cause is same =
      let stopped : Halts (told reader start (Malformed 1 cause)) ≡ Halts (reader.stopped start v) = ap (λ (w : Decision). Halts (reader.stopped start w)) (sym same) in
      line-halts 1 start (reader.stopped start v) line old new is_plain is_short takes (says ∙ ap (header_by begun (told reader start) 1) is ∙ stopped)

  pub header-starts : (start : P) (begun : Heading → P) → IsStart reader start begun → (r : Result Heading Stop) (line : List ℕ) (old new : Option (List ℕ)) (f f' : ℕ) → plain line ≡ true → length line ≤ 200 → Takes piece.Line line old new → ReadsHeader r (header_of line) → f' ≡ f → Starts reader start r old new f f'
  header-starts start begun is (Ok heading) line old new f f' is_plain is_short takes reads sound =
      (record { line = line; header = reads; clean = is_plain; short = is_short; taken = takes }, sound)
  header-starts start begun is (Err (Decided v)) line old new f f' is_plain is_short takes reads sound =
      (header-refused start begun v (header_of line) line old new (is.line line) is_plain is_short takes reads.0 reads.1 reads.2, sound)
  header-starts start begun is (Err ReadFault) line old new f f' is_plain is_short takes reads sound = absurd reads
  header-starts start begun is (Err NoMemory) line old new f f' is_plain is_short takes reads sound = absurd reads

  pub header-rest : (start : P) (begun : Heading → P) → IsStart reader start begun → (line : List ℕ) (old new : Option (List ℕ)) (f f' : ℕ) → plain line ≡ true → length line ≤ 200 → Takes piece.Rest line old new → f' ≡ f → Starts reader start (Err (Decided (alone (Malformed 1 NoEnd)))) old new f f'
  header-rest start begun is line old new f f' is_plain is_short takes sound =
      rest-stops 1 start start (alone (Malformed 1 NoEnd)) line old new f f' (is.cut line) is_plain is_short takes sound

  pub header-long : (start : P) (begun : Heading → P) → IsStart reader start begun → (line : List ℕ) (old new : Option (List ℕ)) (f f' : ℕ) → plain line ≡ true → Takes piece.TooLong line old new → f' ≡ f → Starts reader start (Err (Decided (alone (Limit 1 LineBytes)))) old new f f'
  header-long start begun is line old new f f' is_plain takes sound =
      long-stops 1 start start (alone (Limit 1 LineBytes)) line old new f f' is.long is_plain takes sound

  pub header-fault : (start : P) (line : List ℕ) (old new : Option (List ℕ)) (f f' : ℕ) → plain line ≡ true → length line ≤ 200 → Takes piece.ReadFault line old new → Rose f f' → Starts reader start (Err ReadFault) old new f f'
  header-fault start line old new f f' is_plain is_short takes rose =
      fault-stops 1 start start line old new f f' is_plain is_short takes rose

  -- a header with which reading goes on
  pub header-passes : (start : P) (begun : Heading → P) → IsStart reader start begun → (heading : Heading) (old new : Option (List ℕ)) → HeaderLine heading old new → Continues reader 1 start old 2 (begun heading) new
  header-passes start begun is heading old new header =
      line-passes 1 start (begun heading) header.line old new header.clean header.short header.taken (is.line header.line ∙ ap (header_by begun (told reader start) 1) header.header)

  -- there was no memory behind a header
  pub header-want : (start : P) (heading : Heading) (old new : Option (List ℕ)) → (header : HeaderLine heading old new) → reader.needs 1 start header.line ≡ true → Starves reader 1 start old new
  header-want start heading old new header needs =
      (want-stops 1 start start header.line old new 0 0 header.clean header.short header.taken needs refl).0

  -- A line between the header and the end.

  module _ (stands : P → ℕ → Type 0) where
    pub line-advances : (n : ℕ) (p : P) (r : Result Turn Stop) (line : List ℕ) (old new : Option (List ℕ)) (f f' : ℕ) → plain line ≡ true → length line ≤ 200 → Takes piece.Line line old new → FoldsLine reader stands n p line r → f' ≡ f → Advances reader stands n p r old new f f'
    line-advances n p (Ok Taken) line old new f f' is_plain is_short takes taken sound =
        let passes = line-passes n p taken.0 line old new is_plain is_short takes taken.1 in
        (taken.0, subst (λ (m : ℕ). Continues reader n p old m taken.0 new) (sym (add-one n)) passes, taken.2, taken.3, sound)
    line-advances n p (Ok End) line old new f f' is_plain is_short takes taken sound =
        let passes = line-passes n p taken.0 line old new is_plain is_short takes taken.1 in
        (taken.0, subst (λ (m : ℕ). Continues reader n p old m taken.0 new) (sym (add-one n)) passes, taken.2, taken.3, sound)
    line-advances n p (Err (Decided v)) line old new f f' is_plain is_short takes taken sound =
        ((line-halts n p (reader.stopped p v) line old new is_plain is_short takes taken.0, sound), (taken.1, refused-on n p v line v.verdict taken.0))
    line-advances n p (Err ReadFault) line old new f f' is_plain is_short takes taken sound = absurd taken
    line-advances n p (Err NoMemory) line old new f f' is_plain is_short takes taken sound =
        (want-stops n p p line old new f f' is_plain is_short takes taken sound, tt)

    pub rest-advances : (n : ℕ) (p : P) (line : List ℕ) (old new : Option (List ℕ)) (f f' : ℕ) → IsInside reader p → plain line ≡ true → length line ≤ 200 → Takes piece.Rest line old new → f' ≡ f → Advances reader stands n p (Err (Decided (alone (Malformed n NoEnd)))) old new f f'
    rest-advances n p line old new f f' inside is_plain is_short takes sound =
        (rest-stops n p p (alone (Malformed n NoEnd)) line old new f f' (inside.cut n line) is_plain is_short takes sound, (tt, tt))

    pub long-advances : (n : ℕ) (p : P) (line : List ℕ) (old new : Option (List ℕ)) (f f' : ℕ) → IsInside reader p → plain line ≡ true → Takes piece.TooLong line old new → f' ≡ f → Advances reader stands n p (Err (Decided (alone (Limit n LineBytes)))) old new f f'
    long-advances n p line old new f f' inside is_plain takes sound =
        (long-stops n p p (alone (Limit n LineBytes)) line old new f f' (inside.long n) is_plain takes sound, (tt, tt))

    pub fault-advances : (n : ℕ) (p : P) (line : List ℕ) (old new : Option (List ℕ)) (f f' : ℕ) → plain line ≡ true → length line ≤ 200 → Takes piece.ReadFault line old new → Rose f f' → Advances reader stands n p (Err ReadFault) old new f f'
    fault-advances n p line old new f f' is_plain is_short takes rose =
        (fault-stops n p p line old new f f' is_plain is_short takes rose, tt)

  -- Behind the end.

  module _ (p end : P) (is : IsEnd reader p end) where
    pub line-closes : (n : ℕ) (line : List ℕ) (old new : Option (List ℕ)) (f f' : ℕ) → plain line ≡ true → length line ≤ 200 → Takes piece.Line line old new → f' ≡ f → Closes reader p end (Err (Decided (alone (Malformed n AfterEnd)))) n old new f f'
    line-closes n line old new f f' is_plain is_short takes sound =
        (line-halts n end (reader.stopped p (alone (Malformed n AfterEnd))) line old new is_plain is_short takes (is.line n line), sound)

    pub nothing-closes : (n : ℕ) (line : List ℕ) (old new : Option (List ℕ)) (f f' : ℕ) → nat_eq (length line) 0 ≡ true → plain line ≡ true → length line ≤ 200 → Takes piece.Rest line old new → f' ≡ f → Closes reader p end (Ok tt) n old new f f'
    nothing-closes n line old new f f' empty is_plain is_short takes sound =
        (end-halts n end (reader.whole p) line old new is_plain is_short takes (ap (reader.lines.cut n end) (no-bytes line empty) ∙ is.nothing n), sound)

    cut-more : (n : ℕ) (line : List ℕ) → nat_eq (length line) 0 ≡ false → reader.lines.cut n end line ≡ reader.stopped p (alone (Malformed n AfterEnd))
    cut-more n [] more = cc
    cut-more n (b ∷ bs) more = is.more n b bs

    pub more-closes : (n : ℕ) (line : List ℕ) (old new : Option (List ℕ)) (f f' : ℕ) → nat_eq (length line) 0 ≡ false → plain line ≡ true → length line ≤ 200 → Takes piece.Rest line old new → f' ≡ f → Closes reader p end (Err (Decided (alone (Malformed n AfterEnd)))) n old new f f'
    more-closes n line old new f f' more is_plain is_short takes sound =
        rest-stops n end p (alone (Malformed n AfterEnd)) line old new f f' (cut-more n line more) is_plain is_short takes sound

    pub long-closes : (n : ℕ) (line : List ℕ) (old new : Option (List ℕ)) (f f' : ℕ) → plain line ≡ true → Takes piece.TooLong line old new → f' ≡ f → Closes reader p end (Err (Decided (alone (Malformed n AfterEnd)))) n old new f f'
    long-closes n line old new f f' is_plain takes sound =
        long-stops n end p (alone (Malformed n AfterEnd)) line old new f f' (is.long n) is_plain takes sound

    pub fault-closes : (n : ℕ) (line : List ℕ) (old new : Option (List ℕ)) (f f' : ℕ) → plain line ≡ true → length line ≤ 200 → Takes piece.ReadFault line old new → Rose f f' → Closes reader p end (Err ReadFault) n old new f f'
    fault-closes n line old new f f' is_plain is_short takes rose =
        fault-stops n end p line old new f f' is_plain is_short takes rose

  -- From part to part.

  pub continues-trans : (n1 n2 n3 : ℕ) (p1 p2 p3 : P) (old mid new : Option (List ℕ)) → Continues reader n1 p1 old n2 p2 mid → Continues reader n2 p2 mid n3 p3 new → Continues reader n1 p1 old n3 p3 new
  continues-trans n1 n2 n3 p1 p2 p3 None mid new first second = tt
  continues-trans n1 n2 n3 p1 p2 p3 (Some a) None new first second = absurd first
  continues-trans n1 n2 n3 p1 p2 p3 (Some a) (Some b) None first second = absurd second
  continues-trans n1 n2 n3 p1 p2 p3 (Some a) (Some b) (Some c) first second = passed-trans n1 n2 n3 p1 p2 p3 a b c first second

  pub continues-concludes : (n1 n2 : ℕ) (p1 p2 : P) (v : V) (old mid new : Option (List ℕ)) → Continues reader n1 p1 old n2 p2 mid → Concludes reader n2 p2 mid v new → Concludes reader n1 p1 old v new
  continues-concludes n1 n2 p1 p2 v None mid new first second = tt
  continues-concludes n1 n2 p1 p2 v (Some a) None new first second = absurd first
  continues-concludes n1 n2 p1 p2 v (Some a) (Some b) None first second = absurd second
  continues-concludes n1 n2 p1 p2 v (Some a) (Some b) (Some c) first second = concludes-at n1 p1 a c v (ending_at reader.lines n2 p2 b) (passed-ending n1 n2 p1 p2 a b first) second.0 second.1

  continues-breaks : (n1 n2 : ℕ) (p1 p2 : P) (old mid new : Option (List ℕ)) → Continues reader n1 p1 old n2 p2 mid → Breaks reader n2 p2 mid new → Breaks reader n1 p1 old new
  continues-breaks n1 n2 p1 p2 None mid new first second = tt
  continues-breaks n1 n2 p1 p2 (Some a) None new first second = absurd first
  continues-breaks n1 n2 p1 p2 (Some a) (Some b) None first second = absurd second
  continues-breaks n1 n2 p1 p2 (Some a) (Some b) (Some c) first second = record {
    at = second.at;
    reached = second.reached;
    piece = second.piece;
    passed = passed-trans n1 n2 second.at p1 p2 second.reached a b (second.piece ++ c) first second.passed;
    clean = second.clean;
    short = second.short;
  }

  continues-starves : (n1 n2 : ℕ) (p1 p2 : P) (old mid new : Option (List ℕ)) → Continues reader n1 p1 old n2 p2 mid → Starves reader n2 p2 mid new → Starves reader n1 p1 old new
  continues-starves n1 n2 p1 p2 None mid new first second = tt
  continues-starves n1 n2 p1 p2 (Some a) None new first second = absurd first
  continues-starves n1 n2 p1 p2 (Some a) (Some b) None first second = absurd second
  continues-starves n1 n2 p1 p2 (Some a) (Some b) (Some c) first second = record {
    at = second.at;
    reached = second.reached;
    line = second.line;
    passed = passed-trans n1 n2 second.at p1 p2 second.reached a b (second.line ++ 10 ∷ c) first second.passed;
    clean = second.clean;
    short = second.short;
    needs = second.needs;
  }

  pub continues-stops : (n1 n2 : ℕ) (p1 p2 q : P) (s : Stop) (old mid new : Option (List ℕ)) (f f' f'' : ℕ) → Continues reader n1 p1 old n2 p2 mid → f' ≡ f → Stops reader n2 p2 mid s q new f' f'' → Stops reader n1 p1 old s q new f f''
  continues-stops n1 n2 p1 p2 q (Decided v) old mid new f f' f'' first same second =
      (continues-concludes n1 n2 p1 p2 (reader.stopped q v) old mid new first second.0, second.1 ∙ same)
  continues-stops n1 n2 p1 p2 q ReadFault old mid new f f' f'' first same second =
      (continues-breaks n1 n2 p1 p2 old mid new first second.0, subst (λ (x : ℕ). Rose x f'') same second.1)
  continues-stops n1 n2 p1 p2 q NoMemory old mid new f f' f'' first same second =
      (continues-starves n1 n2 p1 p2 old mid new first second.0, second.1 ∙ same)

  -- one line more was taken
  pub going-on : (stands stands' : P → ℕ → Type 0) (p : P) (n : ℕ) (old mid new : Option (List ℕ)) (f f' : ℕ) → (going : Going reader stands p old n mid) → Advances reader stands' n going.0 (Ok Taken) mid new f f' → Going reader stands' p old (n + 1) new
  going-on stands stands' p n old mid new f f' going taken =
      (taken.0, continues-trans 2 n (n + 1) p going.0 taken.0 old mid new going.1 taken.1, taken.2, taken.3)

  pub going-end : (stands stands' : P → ℕ → Type 0) (p : P) (n : ℕ) (old mid new : Option (List ℕ)) (f f' f'' : ℕ) → (going : Going reader stands p old n mid) → f' ≡ f → Advances reader stands' n going.0 (Ok End) mid new f' f'' → Reaches reader stands' p (Ok (n + 1)) old new f f''
  going-end stands stands' p n old mid new f f' f'' going same taken =
      (going.0, taken.0, n, continues-trans 2 n (n + 1) p going.0 taken.0 old mid new going.1 taken.1, taken.2, taken.3, taken.4 ∙ same)

  pub going-stops : (stands stands' : P → ℕ → Type 0) (p : P) (n : ℕ) (s : Stop) (old mid new : Option (List ℕ)) (f f' f'' : ℕ) → (going : Going reader stands p old n mid) → f' ≡ f → Advances reader stands' n going.0 (Err s) mid new f' f'' → Reaches reader stands' p (Err s) old new f f''
  going-stops stands stands' p n s old mid new f f' f'' going same taken =
      (going.0, n, continues-stops 2 n p going.0 going.0 s old mid new f f' f'' going.1 same taken.0, taken.1)

  -- the end was reached, and then reading went on behind it
  pub closes-ends : (stands : P → ℕ → Type 0) (p : P) (n : ℕ) (r : Result (Unit {0}) Stop) (old mid new : Option (List ℕ)) (f f' f'' : ℕ) → (reached : Reaches reader stands p (Ok n) old mid f f') → Closes reader reached.0 reached.1 r n mid new f' f'' → IfErr r (λ s. IsBrief s) → Ends reader stands p r old new f f''
  closes-ends stands p n (Ok u) old mid new f f' f'' reached closes brief =
      (reached.0, reached.2, continues-concludes 2 n p reached.1 (reader.whole reached.0) old mid new reached.3 closes.0, reached.5, closes.1 ∙ reached.6)
  closes-ends stands p n (Err s) old mid new f f' f'' reached closes brief =
      (reached.0, reached.2, continues-stops 2 n p reached.1 reached.0 s old mid new f f' f'' reached.3 reached.6 closes, brief-knows stands reached.2 reached.0 s brief)

-- the heading that was read is that of what was left
pub header-heads : (heading : Heading) (old new : Option (List ℕ)) → HeaderLine heading old new → Heads old (Some heading)
header-heads heading None new header = tt
header-heads heading (Some a) None header = let taken = header.taken in cc
header-heads heading (Some a) (Some c) header =
    let bytes_are : a ≡ header.line ++ 10 ∷ c = some-preceded a (header.line ++ 10 ∷ []) c header.taken ∙ append_assoc header.line (10 ∷ []) c in
    rw (bytes_are, text_of-line header.line c header.clean) (ap result_ok header.header)

-- what is left has a heading or none
pub some-heads : (left : Option (List ℕ)) → (heading : Option Heading) × Heads left heading
some-heads None = (None, tt)
some-heads (Some bytes) = (heading_in (text_of bytes).lines, refl)
