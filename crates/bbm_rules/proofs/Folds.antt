-- What is said of lines, for any fold over them: what the first line that decides says, or else what the end says.
use Rattle.bbm_rules.proofs.Common.{◌≡◌, ◌⊎◌, ℕ, suc, ◌+◌, List, [], ◌∷◌, ◌++◌, length, Option, Some, refl, ap, sym}
use Rattle.bbm_rules.proofs.Common.{◌∙◌, subst, inl, inr, arith, append-nil, Ending, Fold, Halts, Passes, Turned, Bool}
use Rattle.bbm_rules.proofs.Common.{true, false, if◌then◌else◌, None, Result, Ok, Err, Heading, ending_after}
use Rattle.bbm_rules.proofs.Common.{ending_from, header_by, is_too_long, lines_from, passes_to}
use Rattle.bbm_events.specs.declared.malformed.Malformed.{Malformed as Cause}
use Rattle.bbm_rules.specs.Fold.{DecidedByEnd, DecidedByLine, end_by, turned_by}
use Rattle.bbm_rules.specs.declared.verdict.Verdict.{Verdict}
use Rattle.bbm_rules.specs.declared.verdict.Verdict.TheVariants.{Malformed}

-- where one thing holds of how far the lines are read, another of what is said
abbrev pub Turns : {P V : Type 0} → (P → Type 0) → (V → Type 0) → Turned P V → Type 0
Turns Reads Says (Halts v) = Says v
Turns Reads Says (Passes next) = Reads next

module _ {P V : Type 0} (fold : Fold P V) where
  -- what holds of all that lines say, and of how far they are read, holds of what is said of a text
  module _ (Reads : P → Type 0) (Says : V → Type 0)
      (line : (n : ℕ) (p : P) (l : List ℕ) → Reads p → Turns Reads Says (turned_by fold n p l))
      (end : (n : ℕ) (p : P) (rest : List ℕ) → Reads p → Says (end_by fold n p rest)) where
    said_then : (l : List ℕ) (lines : List (List ℕ)) (rest : List ℕ) (f : P → Ending V) (t : Turned P V)
        → ((next : P) → Reads next → Says (f next).says) → Turns Reads Says t
        → Says (ending_after l lines rest f t).says
    said_then l lines rest f (Halts v) behind holds = holds
    said_then l lines rest f (Passes next) behind holds = behind next holds

    pub said_of : (n : ℕ) (p : P) (lines : List (List ℕ)) (rest : List ℕ) → Reads p
        → Says (ending_from fold n p lines rest).says
    said_of n p [] rest reads = end n p rest reads
    said_of n p (l ∷ lines) rest reads =
        said_then l lines rest _ (turned_by fold n p l) (λ next more. said_of (suc n) next lines rest more)
        (line n p l reads)

  on_from : (q : P) (l : List ℕ) (lines : List (List ℕ)) (rest : List ℕ) (o : Ending V) (g : P → Option P)
      (f : P → Ending V) (t : Turned P V) → ((next : P) → g next ≡ Some q → f next ≡ o) → passes_to g t ≡ Some q
      → ending_after l lines rest f t ≡ o
  on_from q l lines rest o g f (Halts v) behind read = cc
  on_from q l lines rest o g f (Passes next) behind read = behind next read

  -- behind lines of which none decides, it is what is said of the lines there
  pub passed : (n m : ℕ) (p q : P) (lines more : List (List ℕ)) (rest : List ℕ) → m ≡ n + length lines
      → lines_from fold n p lines ≡ Some q → ending_from fold n p (lines ++ more) rest ≡ ending_from fold m q more rest
  passed n m p q [] more rest count read =
      let first : n ≡ m = omega (arith, count) in
      let same : p ≡ q = cc in
      ap (λ (x : ℕ). ending_from fold x p more rest) first ∙ ap (λ (x : P). ending_from fold m x more rest) same
  passed n m p q (l ∷ lines) more rest count read = on_from q l (lines ++ more) rest _ _ _ (turned_by fold n p l)
      (λ next is. passed (suc n) m next q lines more rest (omega (arith, count)) is) read

  pub by_line : (n : ℕ) (p : P) (lines : List (List ℕ)) (rest : List ℕ) (says : V)
      → DecidedByLine fold n p lines says → (ending_from fold n p lines rest).says ≡ says
  by_line n p lines rest says d =
      ap (λ (x : List (List ℕ)). (ending_from fold n p x rest).says) d.split
      ∙ ap (λ (x : Ending V). x.says)
      (passed n (n + length d.before) p d.progress d.before (d.line ∷ d.behind) rest refl d.read)
      ∙ ap (λ (t : Turned P V). (ending_after d.line d.behind rest
      (λ next. ending_from fold (suc (n + length d.before)) next d.behind rest) t).says) d.decides

  pub by_end : (n : ℕ) (p : P) (lines : List (List ℕ)) (rest : List ℕ) (says : V)
      → DecidedByEnd fold n p lines rest says → (ending_from fold n p lines rest).says ≡ says
  by_end n p lines rest says d =
      ap (λ (x : List (List ℕ)). (ending_from fold n p x rest).says) (sym (append-nil lines))
      ∙ ap (λ (x : Ending V). x.says) (passed n (n + length lines) p d.progress lines [] rest refl d.read) ∙ d.decides

  abbrev Decided : ℕ → P → List (List ℕ) → List ℕ → V → Type 0
  Decided n p lines rest says = DecidedByLine fold n p lines says ⊎ DecidedByEnd fold n p lines rest says

  decided_behind : (n : ℕ) (p next : P) (l : List ℕ) (lines : List (List ℕ)) (rest : List ℕ) (says : V)
      → turned_by fold n p l ≡ Passes next → Decided (suc n) next lines rest says → Decided n p (l ∷ lines) rest says
  decided_behind n p next l lines rest says is (inl d) = inl (record {
    before = l ∷ d.before;
    line = d.line;
    behind = d.behind;
    progress = d.progress;
    split = ap (λ (x : List (List ℕ)). l ∷ x) d.split;
    read = ap (passes_to (λ next. lines_from fold (suc n) next d.before)) is ∙ d.read;
    decides = subst (λ (m : ℕ). turned_by fold m d.progress d.line ≡ Halts says) (omega arith) d.decides;
  })
  decided_behind n p next l lines rest says is (inr d) = inr (record {
    progress = d.progress;
    read = ap (passes_to (λ next. lines_from fold (suc n) next lines)) is ∙ d.read;
    decides = subst (λ (m : ℕ). end_by fold m d.progress rest ≡ says) (omega arith) d.decides;
  })

  decided_then : (n : ℕ) (p : P) (l : List ℕ) (lines : List (List ℕ)) (rest : List ℕ) (t : Turned P V)
      → turned_by fold n p l ≡ t
      → ((next : P) → Decided (suc n) next lines rest (ending_from fold (suc n) next lines rest).says)
      → Decided n p (l ∷ lines) rest
      (ending_after l lines rest (λ next. ending_from fold (suc n) next lines rest) t).says
  decided_then n p l lines rest (Halts v) is behind = inl (record {
    before = [];
    line = l;
    behind = lines;
    progress = p;
    split = refl;
    read = refl;
    decides = subst (λ (m : ℕ). turned_by fold m p l ≡ Halts v) (omega arith) is;
  })
  decided_then n p l lines rest (Passes next) is behind =
      decided_behind n p next l lines rest _ is (behind next)

  pub one_decides : (n : ℕ) (p : P) (lines : List (List ℕ)) (rest : List ℕ)
      → Decided n p lines rest (ending_from fold n p lines rest).says
  one_decides n p [] rest =
      inr (record { progress = p; read = refl; decides = ap (λ (m : ℕ). end_by fold m p rest) (omega arith) })
  one_decides n p (l ∷ lines) rest =
      decided_then n p l lines rest (turned_by fold n p l) refl (λ next. one_decides (suc n) next lines rest)

-- ---- the line that is named

-- what line n decides names it
abbrev pub NamedTurn : {P V : Type 0} → (V → Option ℕ) → ℕ → Turned P V → Type 0
NamedTurn names n (Halts v) = names v ≡ Some n
NamedTurn names n (Passes next) = Unit {0}

pub named_if : {P V : Type 0} (names : V → Option ℕ) (n : ℕ) (b : Bool) (s t : Turned P V) → NamedTurn names n s
    → NamedTurn names n t → NamedTurn names n (if b then s else t)
named_if names n true s t first second = first
named_if names n false s t first second = second

pub named_header : {P V : Type 0} (names : V → Option ℕ) (n : ℕ) (begun : Heading → P) (says : Verdict → V)
    (r : Result Heading Cause) → ((cause : Cause) → names (says (Malformed n cause)) ≡ Some n)
    → NamedTurn names n (header_by begun says n r)
named_header names n begun says (Ok heading) named = tt
named_header names n begun says (Err cause) named = named cause

-- What is said by a fold names the line at which it is said, or none at the end.
pub record Named {P V : Type 0} (fold : Fold P V) (names : V → Option ℕ) : Type 0 where
  pub line : (n : ℕ) (p : P) (l : List ℕ) → NamedTurn names n (fold.line n p l)
  pub long : (n : ℕ) (p : P) → names (fold.long n p) ≡ Some n
  pub cut : (n : ℕ) (p : P) (rest : List ℕ) → (names (fold.cut n p rest) ≡ Some n) ⊎ (names (fold.cut n p rest) ≡ None)

-- what a line decides names it, also one that is too long
pub named_turned : {P V : Type 0} (fold : Fold P V) (names : V → Option ℕ) → Named fold names → (n : ℕ) (p : P)
    (l : List ℕ) → NamedTurn names n (turned_by fold n p l)
unfolding turned_by
named_turned fold names named n p l =
    named_if names n (is_too_long l) (Halts (fold.long n p)) (fold.line n p l) (named.long n p) (named.line n p l)
