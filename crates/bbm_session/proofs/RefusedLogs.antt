-- The events before a refused one are a log that keeps the rules, and the refused one breaks the rule that is told.
use Rattle.bbm_session.proofs.Common.{Limits, Patterns, heading_in}
use Rattle.bbm_rules.proofs.Common.{◌≡◌, ℕ, Bool, true, false, cond, List, [], ◌∷◌, None, Some, is_none, Result, Ok}
use Rattle.bbm_rules.proofs.Common.{Err, refl, sym, ap, subst, inl, inr, and_from, result_ok, fits_heading, keeps}
use Rattle.bbm_rules.proofs.Common.{AtEnd, AtEvents, AtHeader, Halts, Judged, Progress, after_line, cut_at}
use Rattle.bbm_rules.proofs.Common.{ending_after, ending_from, events_in, header_by, is_too_long, outcome_of, text_of}
use Rattle.bbm_rules.proofs.Common.{too_long_at, unrefused, Heading, Event, Turned, contains_cases, contains_none}
use Rattle.bbm_events.specs.LineLaws.{LineLaws}
use Rattle.bbm_events.specs.Lines.{header_of, item_of}
use Rattle.bbm_events.specs.declared.malformed.Malformed.{Malformed as Cause}
use Rattle.bbm_rules.proofs.Folds.{said_of}
use Rattle.bbm_rules.specs.Broken.{broken}
use Rattle.bbm_rules.specs.Fold.{end_by, turned_by}
use Rattle.bbm_rules.specs.Outcome.{judging}
use Rattle.bbm_tlb_machine.specs.Safe.{IsLog}
use Rattle.bbm_session.proofs.Judgements.{Reads, ReadsOrTells, Tells, fits-read, tells-item}

-- the events are a log of the header that keeps the rules
pub record IsKept (heading : Heading) (h : List Event) : Type 0 where
  pub log : IsLog heading h
  pub kept : keeps heading Patterns h ≡ true

-- so are those before the line that decides; and an event that is refused is told
abbrev pub IsTold : Heading → Judged → Type 0
IsTold heading judged = Tells heading (IsKept heading) judged

module _ (laws : LineLaws) (limits : Limits) (heading : Heading) where
  abbrev Good : Progress → Type 0
  Good p = Reads heading (IsKept heading) p

  abbrev GoodThen : Turned Progress Judged → Type 0
  GoodThen t = ReadsOrTells heading (IsKept heading) t

  one_more : (h : List Event) (event : Event) → IsKept heading h → fits_heading heading event ≡ true
      → broken heading Patterns h event ≡ None → IsKept heading (event ∷ h)
  one_more h event g fits unbroken = record {
    log = record {
      header = g.log.header;
      events = λ e i. elim (contains_cases h event e i) [
        | inl same ↦ subst (λ (y : Event). fits_heading heading y ≡ true) same fits
        | inr j ↦ g.log.events e j
      ];
    };
    kept = and_from (keeps heading Patterns h) (is_none (broken heading Patterns h event)) g.kept (ap is_none unbroken);
  }

  line_good : (n : ℕ) (p : Progress) (line : List ℕ) → Good p → GoodThen (after_line Patterns limits n p line)
  line_good n AtHeader line g = absurd g
  line_good n (AtEnd h) line g = (g, tt)
  line_good n (AtEvents other h) line g =
      subst (λ (c : Heading). GoodThen (after_line Patterns limits n (AtEvents c h) line)) (sym g.0)
      (tells-item limits heading (IsKept heading) one_more n h g.1 (item_of heading line)
      (fits-read laws.item heading line))

  long_told : (n : ℕ) (p : Progress) → Good p → IsTold heading (unrefused (events_in p) (too_long_at n p))
  long_told n AtHeader g = absurd g
  long_told n (AtEvents other h) g = (g.1, tt)
  long_told n (AtEnd h) g = (g, tt)

  cut_told : (n : ℕ) (p : Progress) (rest : List ℕ) → Good p
      → IsTold heading (unrefused (events_in p) (cut_at n p rest))
  cut_told n AtHeader rest g = absurd g
  cut_told n (AtEvents other h) rest g = (g.1, tt)
  cut_told n (AtEnd h) [] g = (g, tt)
  cut_told n (AtEnd h) (b ∷ rest) g = (g, tt)

  turn_good : (n : ℕ) (p : Progress) (line : List ℕ) → Good p → GoodThen (turned_by (judging Patterns limits) n p line)
  unfolding turned_by judging
  turn_good n p line g = by (is_too_long line)
    where
      by : (b : Bool) → GoodThen
          (cond b (Halts (unrefused (events_in p) (too_long_at n p))) (after_line Patterns limits n p line))
      by true = long_told n p g
      by false = line_good n p line g

  end_told : (n : ℕ) (p : Progress) (rest : List ℕ) → Good p
      → IsTold heading (end_by (judging Patterns limits) n p rest)
  unfolding end_by judging
  end_told n p rest g = by (is_too_long rest)
    where
      by : (b : Bool) → IsTold heading
          (cond b (unrefused (events_in p) (too_long_at n p)) (unrefused (events_in p) (cut_at n p rest)))
      by true = long_told n p g
      by false = cut_told n p rest g

  lines_told : (n : ℕ) (p : Progress) (lines : List (List ℕ)) (rest : List ℕ) → Good p
      → IsTold heading (ending_from (judging Patterns limits) n p lines rest).says
  lines_told n p lines rest g =
      said_of (judging Patterns limits) Good (IsTold heading) turn_good end_told n p lines rest g

  header_is : (r : Result Heading Cause) → result_ok r ≡ Some heading → r ≡ Ok heading
  header_is (Ok other) e = cc
  header_is (Err cause) e = cc

  -- the first line is the header
  first_told : (line : List ℕ) (lines : List (List ℕ)) (rest : List ℕ) → header_of line ≡ Ok heading
      → IsTold heading (ending_from (judging Patterns limits) 1 AtHeader (line ∷ lines) rest).says
  unfolding turned_by judging
  first_told line lines rest e = by (is_too_long line) (header_of line) e
    where
      start : IsKept heading []
      start = record {
        log = record { header = laws.header line heading e; events = λ y i. absurd (contains_none y i) };
        kept = refl;
      }

      by : (b : Bool) (r : Result Heading Cause) → r ≡ Ok heading → IsTold heading
          (ending_after line lines rest (λ next. ending_from (judging Patterns limits) 2 next lines rest)
          (cond b (Halts (unrefused [] (too_long_at 1 AtHeader)))
          (header_by (λ heading. AtEvents heading []) (unrefused []) 1 r))).says
      by true r same = (start, tt)
      by false (Err cause) same = cc
      by false (Ok other) same =
          let is : heading ≡ other = cc in subst
          (λ (x : Heading). IsTold heading (ending_from (judging Patterns limits) 2 (AtEvents x []) lines rest).says)
          is (lines_told 2 (AtEvents heading []) lines rest (refl, start))

  pub bytes_told : (bytes : List ℕ) → heading_in (text_of bytes).lines ≡ Some heading
      → IsTold heading (outcome_of Patterns limits bytes).says
  bytes_told bytes heads = by (text_of bytes).lines heads
    where
      by : (lines : List (List ℕ)) → heading_in lines ≡ Some heading
          → IsTold heading (ending_from (judging Patterns limits) 1 AtHeader lines (text_of bytes).rest).says
      by [] is = cc
      by (line ∷ lines) is = first_told line lines (text_of bytes).rest (header_is (header_of line) is)
