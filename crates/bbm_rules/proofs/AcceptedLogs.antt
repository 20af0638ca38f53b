-- A log that is accepted: its header, the line of each of its events, and its end.
use Rattle.bbm_rules.proofs.Common.{◌≡◌, ◌⊎◌, ℕ, suc, ◌+◌, ◌==◌, Bool, true, false, cond, List, [], ◌∷◌, ◌++◌, length}
use Rattle.bbm_rules.proofs.Common.{Option, Some, None, is_none, Result, Ok, Err, refl, sym, ◌∙◌, ap, subst, inl, inr}
use Rattle.bbm_rules.proofs.Common.{arith, and_from, eqb-true, append_assoc, append-nil, length-append, take, take_at}
use Rattle.bbm_rules.proofs.Common.{Item, Breach, Which, Event, Heading, Trust, keeps, limit_of, outcome_of, text_of}
use Rattle.bbm_rules.proofs.Common.{verdict_of_bytes, WrongCount, AtEnd, AtEvents, AtHeader, Progress, Judged, Turned}
use Rattle.bbm_rules.proofs.Common.{Halts, Passes, Fold, after_item, after_judged, after_kept, after_line, cut_at}
use Rattle.bbm_rules.proofs.Common.{ending_from, events_in, header_by, is_too_long, limit_at, lines_from, passes_to}
use Rattle.bbm_rules.proofs.Common.{too_long_at, unrefused}
use Rattle.bbm_events.specs.declared.event.Item.TheVariants as item
use Rattle.bbm_events.specs.declared.malformed.Malformed.{Malformed as Cause}
use Rattle.bbm_events.specs.Lines.{header_of, item_of}
use Rattle.bbm_rules.proofs.Folds.{Named, NamedTurn, named_header, named_if, named_turned, one_decides}
use Rattle.bbm_rules.specs.Broken.{broken}
use Rattle.bbm_rules.specs.Fold.{DecidedByEnd, DecidedByLine, end_by, turned_by}
use Rattle.bbm_rules.specs.Outcome.{judging, limit_after}
use Rattle.bbm_rules.specs.declared.limits.Limits.{Limits}
use Rattle.bbm_rules.specs.declared.verdict.Verdict.{Verdict}
use Rattle.bbm_rules.specs.declared.verdict.Verdict.TheVariants.{Accepted, Refused, Malformed, Limit}

-- ---- the line that a verdict names

abbrev pub named_line : Verdict → Option ℕ
named_line (Accepted events) = None
named_line (Refused line rule at label) = Some line
named_line (Malformed line cause) = Some line
named_line (Limit line which) = Some line

abbrev pub judged_line : Judged → Option ℕ
judged_line judged = named_line judged.verdict

-- what names a line accepts nothing
none_accepts : (j : Judged) (n count : ℕ) → named_line j.verdict ≡ Some n → j.verdict ≡ Accepted count → ⊥
none_accepts j n count names is = let none : Some n ≡ None = sym names ∙ ap named_line is in cc

-- neither the history nor the command reaches a limit
pub limit_parts : (limits : Limits) (n : ℕ) (h : List Event) (o : Option Which) → limit_at limits n h o ≡ None
    → (o ≡ None) × (limit_after limits n (length h) ≡ None)
limit_parts limits n h (Some which) e = cc
limit_parts limits n h None e = (refl, e)

take_front : (xs ys : List (List ℕ)) → take (length xs) (xs ++ ys) ≡ xs
take_front xs ys = take_at xs ys (length xs) refl

module _ (trust : Trust) (limits : Limits) where
  abbrev pub fold : Fold Progress Judged
  fold = judging trust limits

  abbrev Names : ℕ → Turned Progress Judged → Type 0
  Names n t = NamedTurn judged_line n t

  names_kept : (n : ℕ) (heading : Heading) (h : List Event) (e : Event) (limit : Option Which)
      → Names n (after_kept n heading h e limit)
  names_kept n heading h e (Some which) = refl
  names_kept n heading h e None = tt

  names_judged : (n : ℕ) (heading : Heading) (h : List Event) (e : Event) (label : Option (List ℕ))
      (breach : Option Breach) → Names n (after_judged limits n heading h e label breach)
  names_judged n heading h e label (Some breach) = refl
  names_judged n heading h e label None = names_kept n heading h e (limit_at limits n h (limit_of h e))

  names_item : (n : ℕ) (heading : Heading) (h : List Event) (r : Result Item Cause)
      → Names n (after_item trust limits n heading h r)
  names_item n heading h (Ok (item.Event e label)) = names_judged n heading h e label (broken heading trust h e)
  names_item n heading h (Ok (item.End count)) = named_if judged_line n (count == length h) _ _ tt refl
  names_item n heading h (Err cause) = refl

  names_line : (n : ℕ) (p : Progress) (line : List ℕ) → Names n (after_line trust limits n p line)
  names_line n AtHeader line =
      named_header judged_line n (λ heading. AtEvents heading []) (unrefused []) (header_of line) (λ cause. refl)
  names_line n (AtEvents heading h) line = names_item n heading h (item_of heading line)
  names_line n (AtEnd h) line = refl

  names_long : (n : ℕ) (p : Progress) → named_line (too_long_at n p) ≡ Some n
  names_long n AtHeader = refl
  names_long n (AtEvents heading h) = refl
  names_long n (AtEnd h) = refl

  names_cut : (n : ℕ) (p : Progress) (rest : List ℕ)
      → (named_line (cut_at n p rest) ≡ Some n) ⊎ (named_line (cut_at n p rest) ≡ None)
  names_cut n AtHeader rest = inl refl
  names_cut n (AtEvents heading h) rest = inl refl
  names_cut n (AtEnd h) [] = inr refl
  names_cut n (AtEnd h) (b ∷ rest) = inl refl

  pub names : Named fold judged_line
  unfolding judging
  names = record { line = names_line; long = names_long; cut = names_cut }

  -- a line that passes is short, and passes by what it says
  passes_short : (n : ℕ) (p next : Progress) (line : List ℕ) → turned_by fold n p line ≡ Passes next
      → (is_too_long line ≡ false) × (after_line trust limits n p line ≡ Passes next)
  unfolding turned_by judging
  passes_short n p next line e = by (is_too_long line) refl e
    where
      by : (b : Bool) → is_too_long line ≡ b
          → cond b (Halts (unrefused (events_in p) (too_long_at n p))) (after_line trust limits n p line) ≡ Passes next
          → (is_too_long line ≡ false) × (after_line trust limits n p line ≡ Passes next)
      by true k e = cc
      by false k e = (k, e)

  pub passing : (n : ℕ) (p : Progress) (line : List ℕ) → is_too_long line ≡ false
      → turned_by fold n p line ≡ after_line trust limits n p line
  unfolding turned_by judging
  passing n p line short =
      ap (λ b. cond b (Halts (unrefused (events_in p) (too_long_at n p))) (after_line trust limits n p line)) short

  -- ---- what is accepted is read to its end

  pub record ToEnd (lines : List (List ℕ)) (rest : List ℕ) (count : ℕ) : Type 0 where
    pub h : List Event
    pub read : lines_from fold 1 AtHeader lines ≡ Some (AtEnd h)
    pub nothing : rest ≡ []
    pub counted : count ≡ length h
    pub logged : (ending_from fold 1 AtHeader lines rest).says.log ≡ h

  pub to_end : (lines : List (List ℕ)) (rest : List ℕ) (count : ℕ)
      → (ending_from fold 1 AtHeader lines rest).says.verdict ≡ Accepted count → ToEnd lines rest count
  unfolding end_by judging
  to_end lines rest count a = by (one_decides fold 1 AtHeader lines rest)
    where
      judged : Judged
      judged = (ending_from fold 1 AtHeader lines rest).says

      cut : (n : ℕ) (p : Progress) (rest : List ℕ) → cut_at n p rest ≡ Accepted count
          → (h : List Event) × (p ≡ AtEnd h) × (rest ≡ []) × (count ≡ length h)
      cut n (AtEnd h) [] e = (h, refl, refl, cc)
      cut n (AtEnd h) (b ∷ bs) e = cc
      cut n AtHeader bs e = cc
      cut n (AtEvents heading h) bs e = cc

      at_end : (n : ℕ) (p : Progress) → end_by fold n p rest ≡ judged
          → (h : List Event) × (p ≡ AtEnd h) × (rest ≡ []) × (count ≡ length h) × (judged.log ≡ events_in p)
      at_end n p e = over (is_too_long rest) e
        where
          over : (b : Bool) → cond b (unrefused (events_in p) (too_long_at n p)) (unrefused (events_in p) (cut_at n p rest)) ≡ judged
              → (h : List Event) × (p ≡ AtEnd h) × (rest ≡ []) × (count ≡ length h) × (judged.log ≡ events_in p)
          over true e =
              absurd (none_accepts judged n count (ap judged_line (sym e) ∙ names_long n p) a)
          over false e =
              let k = cut n p rest (ap (λ (j : Judged). j.verdict) e ∙ a) in
              (k.0, k.1, k.2, k.3, sym (ap (λ (j : Judged). j.log) e))

      by : DecidedByLine fold 1 AtHeader lines judged ⊎ DecidedByEnd fold 1 AtHeader lines rest judged → ToEnd lines rest count
      by (inl k) = absurd (none_accepts judged (1 + length k.before) count
          (subst (NamedTurn judged_line (1 + length k.before)) k.decides
          (named_turned fold judged_line names (1 + length k.before) k.progress k.line)) a)
      by (inr k) =
          let e = at_end (1 + length lines) k.progress k.decides in
          record {
            h = e.0;
            read = k.read ∙ ap (λ (p : Progress). Some p) e.1;
            nothing = e.2;
            counted = e.3;
            logged = e.4 ∙ ap events_in e.1;
          }

  -- ---- the lines of the events

  module _ (heading : Heading) where
    -- the line of an event, behind those of h
    pub record EventLine (h : List Event) (line : List ℕ) (e : Event) : Type 0 where
      pub label : Option (List ℕ)
      pub short : is_too_long line ≡ false
      pub spells : item_of heading line ≡ Ok (item.Event e label)
      pub unbroken : broken heading trust h e ≡ None
      pub below : limit_at limits (length h + 2) h (limit_of h e) ≡ None

    -- the lines of the events of a history
    abbrev pub EventLines : List (List ℕ) → List Event → Type 0
    EventLines lines [] = lines ≡ []
    EventLines lines (e ∷ h) = (older : List (List ℕ)) × (line : List ℕ) × (lines ≡ older ++ line ∷ []) × EventLine h line e
        × EventLines older h

    -- a line that passes behind those of h is that of an event, or the end
    pub record EventPasses (h : List Event) (line : List ℕ) (next : Progress) : Type 0 where
      pub event : Event
      pub is_line : EventLine h line event
      pub is_next : next ≡ AtEvents heading (event ∷ h)

    pub record EndLine (h : List Event) (line : List ℕ) : Type 0 where
      pub short : is_too_long line ≡ false
      pub spells : item_of heading line ≡ Ok (item.End (length h))

    item_passes : (n : ℕ) (h : List Event) (line : List ℕ) (next : Progress) → n ≡ length h + 2 → is_too_long line ≡ false
        → (r : Result Item Cause) → item_of heading line ≡ r → after_item trust limits n heading h r ≡ Passes next
        → EventPasses h line next ⊎ (EndLine h line × (next ≡ AtEnd h))
    item_passes n h line next at short (Err cause) r e = cc
    item_passes n h line next at short (Ok (item.End count)) r e = by (count == length h) refl e
      where
        by : (b : Bool) → (count == length h) ≡ b → cond b (Passes (AtEnd h)) (Halts (unrefused h (Malformed n WrongCount))) ≡ Passes next
            → EventPasses h line next ⊎ (EndLine h line × (next ≡ AtEnd h))
        by true k e = inr (record { short = short; spells = r ∙ ap (λ (m : ℕ). Ok (item.End m)) (eqb-true count (length h) k) }, cc)
        by false k e = cc
    item_passes n h line next at short (Ok (item.Event event label)) r e = by (broken heading trust h event) refl e
      where
        within : broken heading trust h event ≡ None → (o : Option Which) → limit_at limits n h (limit_of h event) ≡ o
            → after_kept n heading h event o ≡ Passes next → EventPasses h line next ⊎ (EndLine h line × (next ≡ AtEnd h))
        within unbroken (Some which) l e = cc
        within unbroken None l e = inl (record {
          event = event;
          is_line = record {
            label = label;
            short = short;
            spells = r;
            unbroken = unbroken;
            below = subst (λ (m : ℕ). limit_at limits m h (limit_of h event) ≡ None) at l;
          };
          is_next = cc;
        })

        by : (o : Option Breach) → broken heading trust h event ≡ o → after_judged limits n heading h event label o ≡ Passes next
            → EventPasses h line next ⊎ (EndLine h line × (next ≡ AtEnd h))
        by (Some breach) b e = cc
        by None b e = within b (limit_at limits n h (limit_of h event)) refl e

    -- nothing passes behind the end
    nothing_behind : (n : ℕ) (h h' : List Event) (lines : List (List ℕ)) → lines_from fold n (AtEnd h) lines ≡ Some (AtEnd h')
        → (lines ≡ []) × (h ≡ h')
    nothing_behind n h h' [] read = (refl, cc)
    nothing_behind n h h' (line ∷ lines) read = by (turned_by fold n (AtEnd h) line) refl read
      where
        by : (t : Turned Progress Judged) → turned_by fold n (AtEnd h) line ≡ t
            → passes_to (λ next. lines_from fold (suc n) next lines) t ≡ Some (AtEnd h') → (line ∷ lines ≡ []) × (h ≡ h')
        by (Halts v) is read = cc
        by (Passes next) is read = let p = passes_short n (AtEnd h) next line is in let bad = p.1 in cc

    -- the lines behind the first ones: those of more events, and the end
    pub record Ends (before lines : List (List ℕ)) (h : List Event) : Type 0 where
      pub events : List (List ℕ)
      pub last : List ℕ
      pub split : lines ≡ events ++ last ∷ []
      pub are_events : EventLines (before ++ events) h
      pub is_end : EndLine h last

    one_more : (before lines : List (List ℕ)) (line : List ℕ) (h : List Event) → Ends (before ++ line ∷ []) lines h → Ends before (line ∷ lines) h
    one_more before lines line h k = record {
      events = line ∷ k.events;
      last = k.last;
      split = ap (λ (ls : List (List ℕ)). line ∷ ls) k.split;
      are_events = subst (λ (ls : List (List ℕ)). EventLines ls h) (append_assoc before (line ∷ []) k.events) k.are_events;
      is_end = k.is_end;
    }

    pub read_events : (lines before : List (List ℕ)) (h h' : List Event) (n : ℕ) → n ≡ length h + 2 → EventLines before h
        → lines_from fold n (AtEvents heading h) lines ≡ Some (AtEnd h') → Ends before lines h'
    read_events [] before h h' n at are read = cc
    read_events (line ∷ lines) before h h' n at are read =
        by (λ more h2 m at2 are2 read2. read_events lines more h2 h' m at2 are2 read2) (turned_by fold n (AtEvents heading h) line) refl read
      where
        over : ((more : List (List ℕ)) (h2 : List Event) (m : ℕ) → m ≡ length h2 + 2 → EventLines more h2
            → lines_from fold m (AtEvents heading h2) lines ≡ Some (AtEnd h') → Ends more lines h')
            → (next : Progress) → lines_from fold (suc n) next lines ≡ Some (AtEnd h')
            → EventPasses h line next ⊎ (EndLine h line × (next ≡ AtEnd h)) → Ends before (line ∷ lines) h'
        over later next read (inl k) = one_more before lines line h' (later (before ++ line ∷ []) (k.event ∷ h) (suc n) (omega (arith, at))
            (before, line, refl, k.is_line, are)
            (subst (λ (p : Progress). lines_from fold (suc n) p lines ≡ Some (AtEnd h')) k.is_next read))
        over later next read (inr k) =
            let none = nothing_behind (suc n) h h' lines (subst (λ (p : Progress). lines_from fold (suc n) p lines ≡ Some (AtEnd h')) k.1 read) in
            record {
              events = [];
              last = line;
              split = ap (λ (ls : List (List ℕ)). line ∷ ls) none.0;
              are_events = subst (λ (ls : List (List ℕ)). EventLines ls h') (sym (append-nil before)) (subst (λ (g : List Event). EventLines before g) none.1 are);
              is_end = subst (λ (g : List Event). EndLine g line) none.1 k.0;
            }

        by : ((more : List (List ℕ)) (h2 : List Event) (m : ℕ) → m ≡ length h2 + 2 → EventLines more h2
            → lines_from fold m (AtEvents heading h2) lines ≡ Some (AtEnd h') → Ends more lines h')
            → (t : Turned Progress Judged) → turned_by fold n (AtEvents heading h) line ≡ t
            → passes_to (λ next. lines_from fold (suc n) next lines) t ≡ Some (AtEnd h') → Ends before (line ∷ lines) h'
        by later (Halts v) is read = cc
        by later (Passes next) is read =
            let p = passes_short n (AtEvents heading h) next line is in
            over later next read (item_passes n h line next at p.0 (item_of heading line) refl p.1)

    pub as_many : (lines : List (List ℕ)) (h : List Event) → EventLines lines h → length lines ≡ length h
    as_many lines [] are = ap (λ (ls : List (List ℕ)). length ls) are
    as_many lines (e ∷ h) are =
        let before : length are.0 ≡ length h = as_many are.0 h are.4 in
        ap (λ (ls : List (List ℕ)). length ls) are.2 ∙ length-append are.0 (are.1 ∷ []) ∙ omega (arith, before)

    pub kept : (lines : List (List ℕ)) (h : List Event) → EventLines lines h → keeps heading trust h ≡ true
    kept lines [] are = refl
    kept lines (e ∷ h) are =
        let l : EventLine h are.1 e = are.3 in
        and_from (keeps heading trust h) (is_none (broken heading trust h e)) (kept are.0 h are.4)
        (ap (λ (o : Option Breach). is_none o) l.unbroken)

  -- ---- the header

  pub record Begins (lines : List (List ℕ)) (h : List Event) : Type 0 where
    pub heading : Heading
    pub line : List ℕ
    pub behind : List (List ℕ)
    pub split : lines ≡ line ∷ behind
    pub spells : header_of line ≡ Ok heading
    pub short : is_too_long line ≡ false
    pub passes : turned_by fold 1 AtHeader line ≡ Passes (AtEvents heading [])
    pub read : lines_from fold 2 (AtEvents heading []) behind ≡ Some (AtEnd h)

  pub begins : (lines : List (List ℕ)) (h : List Event) → lines_from fold 1 AtHeader lines ≡ Some (AtEnd h) → Begins lines h
  begins [] h read = cc
  begins (line ∷ behind) h read = by (turned_by fold 1 AtHeader line) refl read
    where
      of_header : (next : Progress) → is_too_long line ≡ false → turned_by fold 1 AtHeader line ≡ Passes next → lines_from fold 2 next behind ≡ Some (AtEnd h)
          → (r : Result Heading Cause) → header_of line ≡ r → header_by (λ heading. AtEvents heading []) (unrefused []) 1 r ≡ Passes next
          → Begins (line ∷ behind) h
      of_header next short is read (Err cause) r e = cc
      of_header next short is read (Ok heading) r e =
          let first : AtEvents heading [] ≡ next = cc in
          record {
            heading = heading;
            line = line;
            behind = behind;
            split = refl;
            spells = r;
            short = short;
            passes = is ∙ ap (λ (p : Progress). Passes p) (sym first);
            read = subst (λ (p : Progress). lines_from fold 2 p behind ≡ Some (AtEnd h)) (sym first) read;
          }

      by : (t : Turned Progress Judged) → turned_by fold 1 AtHeader line ≡ t
          → passes_to (λ next. lines_from fold 2 next behind) t ≡ Some (AtEnd h) → Begins (line ∷ behind) h
      by (Halts v) is read = cc
      by (Passes next) is read =
          let p = passes_short 1 AtHeader next line is in of_header next p.0 is read (header_of line) refl p.1

module _ (trust : Trust) (limits : Limits) (bytes : List ℕ) (count : ℕ)
    (accepted : verdict_of_bytes trust limits bytes ≡ Accepted count) where
  -- its header, the lines of its events and its end
  pub record Parts : Type 0 where
    pub h : List Event
    pub logged : (outcome_of trust limits bytes).says.log ≡ h
    pub counted : count ≡ length h
    pub start : Begins trust limits (text_of bytes).lines h
    pub ends : Ends trust limits start.heading [] start.behind h
    pub whole : (text_of bytes).lines ≡ start.line ∷ (ends.events ++ ends.last ∷ [])
    pub nothing : (text_of bytes).rest ≡ []
    pub is_end : item_of start.heading ends.last ≡ Ok (item.End count)
    pub front : take (suc count) (text_of bytes).lines ≡ start.line ∷ ends.events

  pub parts : Parts
  parts = of_start (begins trust limits (text_of bytes).lines t.h t.read)
    where
      t : ToEnd trust limits (text_of bytes).lines (text_of bytes).rest count
      t = to_end trust limits (text_of bytes).lines (text_of bytes).rest count accepted

      of_ends : (s : Begins trust limits (text_of bytes).lines t.h) → Ends trust limits s.heading [] s.behind t.h → Parts
      of_ends s e =
          let all : (text_of bytes).lines ≡ s.line ∷ (e.events ++ e.last ∷ []) = s.split ∙ ap (λ (ls : List (List ℕ)). s.line ∷ ls) e.split in
          let many : count ≡ length e.events = t.counted ∙ sym (as_many trust limits s.heading e.events t.h e.are_events) in
          record {
            h = t.h;
            logged = t.logged;
            counted = t.counted;
            start = s;
            ends = e;
            whole = all;
            nothing = t.nothing;
            is_end = e.is_end.spells ∙ ap (λ (n : ℕ). Ok (item.End n)) (sym t.counted);
            front = ap (take (suc count)) all ∙ ap (λ (n : ℕ). take (suc n) (s.line ∷ (e.events ++ e.last ∷ []))) many
                ∙ ap (λ (ls : List (List ℕ)). s.line ∷ ls) (take_front e.events (e.last ∷ []));
          }

      of_start : Begins trust limits (text_of bytes).lines t.h → Parts
      of_start s = of_ends s (read_events trust limits s.heading s.behind [] [] t.h 2 refl refl s.read)
