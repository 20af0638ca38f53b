-- A log that is accepted is accepted without the lines of its idle events, its count corrected.
use Rattle.bbm_session.proofs.Common.{Patterns, plain, plain_lines}
use Rattle.bbm_rules.proofs.Common.{◌≡◌, ℕ, suc, ◌+◌, ◌-◌, ◌<◌, ◌≤◌, ◌==◌, nat_le, Bool, true, false, cond, List, []}
use Rattle.bbm_rules.proofs.Common.{◌∷◌, ◌++◌, length, Option, Some, None, Result, Ok, refl, sym, ◌∙◌, ap, subst, arith}
use Rattle.bbm_rules.proofs.Common.{true≢false, and_from, append-nil, Item, among, keeps, Which, Event, Heading}
use Rattle.bbm_rules.proofs.Common.{nat_tests, length-append, and_parts, not, ◌&&◌, ◌||◌, if_so, or_left, ne_eqb}
use Rattle.bbm_rules.proofs.Common.{eq-eqb, leb-false, initialised, take, heading_ok, outcome_of, text_of, bytes_of}
use Rattle.bbm_rules.proofs.Common.{verdict_of_bytes, with_number, Declared, Init, Root, Msr, Reg, register_values}
use Rattle.bbm_rules.proofs.Common.{roots_of, flat_map, reverse, reverse-append}
use Rattle.std.proofs.lemmas.Bool.{lt-leb, lt-ltb, ltb-true}
use Rattle.bbm_rules.proofs.Common.{result_ok, Text, ◌^◌}
use Rattle.bbm_events.specs.Fits.{item_fits}
use Rattle.bbm_rules.specs.Broken.{broken}
use Rattle.bbm_rules.specs.Fold.{Fold, Halts, Passes, turned_by, end_by, passes_to, lines_from, ending_from}
use Rattle.bbm_rules.specs.Fold.{is_too_long}
use Rattle.bbm_rules.specs.Limits.{limit_of}
use Rattle.bbm_rules.specs.Outcome.{Progress, AtHeader, AtEvents, AtEnd, Judged, judging, unrefused, after_item}
use Rattle.bbm_rules.specs.Outcome.{after_judged, after_kept, limit_at, limit_after, is_reached}
use Rattle.bbm_rules.specs.declared.limits.Limits.{Limits}
use Rattle.bbm_rules.specs.declared.verdict.Verdict.TheVariants.{Accepted, Malformed}
use Rattle.bbm_regimes.specs.declared.regime.Which.TheVariants.{Events, Lines, Pages, Roots, Values}
use Rattle.bbm_events.specs.declared.event.Item.TheVariants as item
use Rattle.bbm_events.specs.declared.malformed.Malformed.{Malformed as Cause}
use Rattle.bbm_events.specs.declared.malformed.Malformed.TheVariants.{WrongCount}
use Rattle.bbm_events.specs.Lines.{item_of, item_line}
use Rattle.bbm_session.specs.IdleLines.{StaysAccepted, marked_numbers, lines_but, idle_numbers, text_but}
use Rattle.bbm_report.specs.Further.{heading_in}
use Rattle.bbm_report.specs.ReportLines.{idle_text}
use Rattle.bbm_texts.specs.Shown.{marked_lines}
use Rattle.std.proofs.lemmas.Grind.{flat_map-append}
use Rattle.bbm_idle.specs.Idle.{is_idle, idle_marks, without_idle}
use Rattle.bbm_session.proofs.GeneratedLogs.{plain_is}
use Rattle.bbm_session.proofs.ReadBytes.{plain_text, text_of-bytes_of}
use Rattle.bbm_session.proofs.Stages.{plain_lines-append}
use Rattle.bbm_session.proofs.Texts.{bytes_of-text_of}
use Rattle.bbm_events.specs.LineLaws.{HeadersAreInRange, ItemsFit, WrittenIsALine, WrittenIsRead}
use Rattle.bbm_session.proofs.TextLines.{lines-append}
use Rattle.bbm_rules.proofs.AcceptedLogs as logs
use Rattle.bbm_rules.proofs.Folds.{passed}

-- ---- the numbers of marked lines

-- the lines that tell the marked events are those of their numbers, in the order of the log
pub listed : (marks : List Bool) → marked_lines marks ≡ flat_map idle_text (reverse (marked_numbers marks))
listed [] = refl
listed (true ∷ older) =
    ap (λ (text : List ℕ). text ++ idle_text (length older + 2)) (listed older)
    ∙ ap (λ (text : List ℕ). flat_map idle_text (reverse (marked_numbers older)) ++ text) (sym (append-nil (idle_text (length older + 2))))
    ∙ sym (flat_map-append idle_text (reverse (marked_numbers older)) ((length older + 2) ∷ []))
    ∙ ap (flat_map idle_text) (sym (reverse-append ((length older + 2) ∷ []) (marked_numbers older)))
listed (false ∷ older) = append-nil (marked_lines older) ∙ listed older

-- the numbers are those of lines behind the header, up to the line of the last event
beyond : (k : ℕ) (marks : List Bool) → length marks + 2 ≤ k → among k (marked_numbers marks) ≡ false
beyond k [] less = refl
beyond k (true ∷ older) less =
    ap (λ (b : Bool). b || among k (marked_numbers older)) (ne_eqb (length older + 2) k (λ same. omega (arith, less, same)))
    ∙ beyond k older (omega (arith, less))
beyond k (false ∷ older) less = beyond k older (omega (arith, less))

pub header_stays : (marks : List Bool) → among 1 (marked_numbers marks) ≡ false
header_stays [] = refl
header_stays (true ∷ older) =
    ap (λ (b : Bool). b || among 1 (marked_numbers older)) (ne_eqb (length older + 2) 1 (λ same. omega (arith, same)))
    ∙ header_stays older
header_stays (false ∷ older) = header_stays older

module _ (heading : Heading) where
  -- the numbers have those of the lines of the idle events of a history, and no others of lines of its events
  abbrev pub Agree : List ℕ → List Event → Type 0
  Agree numbers [] = Unit {0}
  Agree numbers (e ∷ h) = (among (length h + 2) numbers ≡ is_idle heading h e) × Agree numbers h

  agree_more : (k : ℕ) (numbers : List ℕ) (h : List Event) → length h + 2 ≤ k → Agree numbers h → Agree (k ∷ numbers) h
  agree_more k numbers [] less a = tt
  agree_more k numbers (e ∷ h) less a = (
    ap (λ (b : Bool). b || among (length h + 2) numbers) (ne_eqb k (length h + 2) (λ same. omega (arith, less, same))) ∙ a.0,
    agree_more k numbers h (omega (arith, less)) a.1,
  )

  as_many_marks : (h : List Event) → length (idle_marks heading h) ≡ length h
  as_many_marks [] = refl
  as_many_marks (e ∷ h) = ap suc (as_many_marks h)

  pub agree : (h : List Event) → Agree (idle_numbers heading h) h
  agree [] = tt
  agree (e ∷ h) = by (is_idle heading h e) refl (agree h) (as_many_marks h)
    where
      by : (b : Bool) → is_idle heading h e ≡ b → Agree (idle_numbers heading h) h → length (idle_marks heading h) ≡ length h
          → Agree (cond b ((length (idle_marks heading h) + 2) ∷ idle_numbers heading h) (idle_numbers heading h)) (e ∷ h)
      by true idle a many = (
        or_left ((length (idle_marks heading h) + 2) == (length h + 2)) (among (length h + 2) (idle_numbers heading h))
            (eq-eqb (length (idle_marks heading h) + 2) (length h + 2) (omega (arith, many))) ∙ sym idle,
        agree_more (length (idle_marks heading h) + 2) (idle_numbers heading h) h (omega (arith, many)) a,
      )
      by false idle a many = (beyond (length h + 2) (idle_marks heading h) (omega (arith, many)) ∙ sym idle, a)

  -- as many events are left as there are without these lines
  pub left_over : (h : List Event) → length (idle_numbers heading h) + length (without_idle heading h) ≡ length h
  left_over [] = refl
  left_over (e ∷ h) = by (is_idle heading h e) (left_over h)
    where
      by : (b : Bool) → length (idle_numbers heading h) + length (without_idle heading h) ≡ length h
          → length (cond b ((length (idle_marks heading h) + 2) ∷ idle_numbers heading h) (idle_numbers heading h))
          + length (cond b (without_idle heading h) (e ∷ without_idle heading h)) ≡ suc (length h)
      by true same = omega (arith, same)
      by false same = omega (arith, same)

  -- ---- limits

  no_init : (e : Event) (h : List Event) → is_idle heading h e ≡ true → initialised (e ∷ h) ≡ initialised h
  unfolding is_idle
  no_init (Init pe page) h idle = absurd (true≢false (sym idle))
  no_init e h idle = refl

  same_with : (e : Event) (h h' : List Event) → initialised h ≡ initialised h' → initialised (e ∷ h) ≡ initialised (e ∷ h')
  same_with (Init pe page) h h' same = ap (with_number page) same
  same_with e h h' same = same

  same_pages : (h : List Event) → initialised (without_idle heading h) ≡ initialised h
  same_pages [] = refl
  same_pages (e ∷ h) = by (is_idle heading h e) refl (same_pages h)
    where
      by : (b : Bool) → is_idle heading h e ≡ b → initialised (without_idle heading h) ≡ initialised h
          → initialised (cond b (without_idle heading h) (e ∷ without_idle heading h)) ≡ initialised (e ∷ h)
      by true idle same = same ∙ sym (no_init e h idle)
      by false idle same = same_with e (without_idle heading h) h same

  -- the roots and the readable register values of a history are those without its idle events
  pub record KeepsLimits (h : List Event) : Type 0 where
    pub roots : roots_of h ≡ roots_of (without_idle heading h)
    pub registers : (p : ℕ) (reg : Reg) → register_values h p reg ≡ register_values (without_idle heading h) p reg

  pub same_limit : (h : List Event) (e : Event) → KeepsLimits h → limit_of (without_idle heading h) e ≡ limit_of h e
  same_limit h (Init pe page) a =
      ap (λ (pages : List ℕ). if_so (not (among page pages) && nat_le 16384 (length pages)) Pages) (same_pages h)
  same_limit h (Root pe kind lock page) a =
      ap (λ (roots : List Declared). if_so (nat_le 1024 (length roots)) Roots) (sym a.roots)
  same_limit h (Msr pe reg value) a =
      ap (λ (values : List ℕ). if_so (nat_le 9 (length values)) Values) (sym (a.registers pe reg))
  same_limit h e a = refl

unreached : (o : Option ℕ) (c d : ℕ) → d ≤ c → is_reached o c ≡ false → is_reached o d ≡ false
unreached None c d less e = refl
unreached (Some k) c d less e = let over : c < k = leb-false k c e in lt-leb k d (omega (arith, over, less))

-- a limit that isn't reached isn't by fewer events on an earlier line
still_below : (limits : Limits) (n m c d : ℕ) → m ≤ n → d ≤ c → limit_after limits n c ≡ None → limit_after limits m d ≡ None
still_below limits n m c d sooner fewer e = by (is_reached limits.events c) refl e
  where
    lines : (b : Bool) → nat_le limits.lines n ≡ b → cond b (Some Lines) None ≡ None → nat_le limits.lines m ≡ false
    lines true l e = cc
    lines false l e = let over : n < limits.lines = leb-false limits.lines n l in lt-leb limits.lines m (omega (arith, over, sooner))

    by : (b : Bool) → is_reached limits.events c ≡ b → cond b (Some Events) (cond (nat_le limits.lines n) (Some Lines) None) ≡ None
        → limit_after limits m d ≡ None
    by true r e = cc
    by false r e =
        ap (λ (b : Bool). cond b (Some Events) (cond (nat_le limits.lines m) (Some Lines) None)) (unreached limits.events c d fewer r)
        ∙ ap (λ (b : Bool). cond b (Some Lines) None) (lines (nat_le limits.lines n) refl e)

-- ---- the lines that are left

lines_but-append : (numbers : List ℕ) (n : ℕ) (lines more : List (List ℕ))
    → lines_but numbers n (lines ++ more) ≡ lines_but numbers n lines ++ lines_but numbers (n + length lines) more
lines_but-append numbers n [] more = let same : n ≡ n + 0 = omega arith in ap (λ (m : ℕ). lines_but numbers m more) same
lines_but-append numbers n (line ∷ lines) more = by (among n numbers) (lines_but-append numbers (suc n) lines more)
  where
    same : suc n + length lines ≡ n + suc (length lines)
    same = omega arith

    by : (b : Bool) → lines_but numbers (suc n) (lines ++ more) ≡ lines_but numbers (suc n) lines ++ lines_but numbers (suc n + length lines) more
        → cond b (lines_but numbers (suc n) (lines ++ more)) (line ∷ lines_but numbers (suc n) (lines ++ more))
        ≡ cond b (lines_but numbers (suc n) lines) (line ∷ lines_but numbers (suc n) lines) ++ lines_but numbers (n + suc (length lines)) more
    by true e = e ∙ ap (λ (m : ℕ). lines_but numbers (suc n) lines ++ lines_but numbers m more) same
    by false e = ap (λ (ls : List (List ℕ)). line ∷ ls)
        (e ∙ ap (λ (m : ℕ). lines_but numbers (suc n) lines ++ lines_but numbers m more) same)

pub none_out : (n : ℕ) (lines : List (List ℕ)) → lines_but [] n lines ≡ lines
none_out n [] = refl
none_out n (line ∷ lines) = ap (λ (ls : List (List ℕ)). line ∷ ls) (none_out (suc n) lines)

pub plain_but : (numbers : List ℕ) (n : ℕ) (lines : List (List ℕ)) → plain_lines lines ≡ true → plain_lines (lines_but numbers n lines) ≡ true
plain_but numbers n [] clean = refl
plain_but numbers n (line ∷ lines) clean =
    let parts = and_parts (plain line) (plain_lines lines) clean in by (among n numbers) parts.0 (plain_but numbers (suc n) lines parts.1)
  where
    by : (b : Bool) → plain line ≡ true → plain_lines (lines_but numbers (suc n) lines) ≡ true
        → plain_lines (cond b (lines_but numbers (suc n) lines) (line ∷ lines_but numbers (suc n) lines)) ≡ true
    by true first rest = rest
    by false first rest = and_from (plain line) (plain_lines (lines_but numbers (suc n) lines)) first rest

-- ---- the lines that are left are those of the events that are left

module _ (limits : Limits) where
  abbrev pub fold : Fold Progress Judged
  fold = judging Patterns limits

  module _ (heading : Heading) where
    abbrev pub EventLine : List Event → List ℕ → Event → Type 0
    EventLine = logs.EventLine Patterns limits heading

    abbrev pub EventLines : List (List ℕ) → List Event → Type 0
    EventLines = logs.EventLines Patterns limits heading

    -- what is known of the idle events of a history that keeps the rules
    pub record Spares : Type 0 where
      pub judged : (h : List Event) (e : Event) → keeps heading Patterns h ≡ true
          → broken heading Patterns (without_idle heading h) e ≡ broken heading Patterns h e
      pub limits_stay : (h : List Event) → keeps heading Patterns h ≡ true → KeepsLimits heading h

    pub record Reread (numbers : List ℕ) (lines : List (List ℕ)) (h : List Event) : Type 0 where
      pub read : lines_from fold 2 (AtEvents heading []) (lines_but numbers 2 lines) ≡ Some (AtEvents heading (without_idle heading h))
      pub many : length (lines_but numbers 2 lines) ≡ length (without_idle heading h)

    line_again : Spares → (n : ℕ) (h : List Event) (line : List ℕ) (e : Event) → keeps heading Patterns h ≡ true → EventLine h line e
        → n ≤ length h + 2 → turned_by fold n (AtEvents heading (without_idle heading h)) line ≡ Passes (AtEvents heading (e ∷ without_idle heading h))
    line_again spares n h line e kept_before l sooner =
        let rest = without_idle heading h in
        let parts = logs.limit_parts limits (length h + 2) h (limit_of h e) l.below in
        let many = left_over heading h in
        logs.passing Patterns limits n (AtEvents heading rest) line l.short
        ∙ ap (λ (r : Result Item Cause). after_item Patterns limits n heading rest r) l.spells
        ∙ ap (after_judged limits n heading rest e l.label) (spares.judged h e kept_before ∙ l.unbroken)
        ∙ ap (λ (o : Option Which). after_kept n heading rest e (limit_at limits n rest o))
        (same_limit heading h e (spares.limits_stay h kept_before) ∙ parts.0)
        ∙ ap (after_kept n heading rest e) (still_below limits (length h + 2) n (length h) (length rest) sooner (omega (arith, many)) parts.1)

    pub reread : Spares → (numbers : List ℕ) (lines : List (List ℕ)) (h : List Event) → EventLines lines h → Agree heading numbers h
        → Reread numbers lines h
    reread spares numbers lines [] are a = subst (λ (ls : List (List ℕ)). Reread numbers ls []) (sym are) (record { read = refl; many = refl })
    reread spares numbers lines (e ∷ h) are a =
        let older : List (List ℕ) = are.0 in
        let line : List ℕ = are.1 in
        let before : EventLines older h = are.4 in
        let many = logs.as_many Patterns limits heading older h before in
        let at : 2 + length older ≡ length h + 2 = omega (arith, many) in
        let marked = ap (λ (n : ℕ). among n numbers) at ∙ a.0 in
        subst (λ (ls : List (List ℕ)). Reread numbers ls (e ∷ h)) (sym are.2)
        (by older line before are.3 marked (reread spares numbers older h before a.1))
      where
        rest : List Event
        rest = without_idle heading h

        Kept : List (List ℕ) → List ℕ → Bool → Bool → Type 0
        Kept older line b c = (lines_from fold 2 (AtEvents heading []) (lines_but numbers 2 older ++ cond b [] (line ∷ []))
            ≡ Some (AtEvents heading (cond c rest (e ∷ rest))))
            × (length (lines_but numbers 2 older ++ cond b [] (line ∷ [])) ≡ length (cond c rest (e ∷ rest)))

        go : (older : List (List ℕ)) (line : List ℕ) → EventLines older h → EventLine h line e → (b c : Bool) → b ≡ c → Reread numbers older h
            → Kept older line b c
        go older line before l true true same r =
            let none = append-nil (lines_but numbers 2 older) in (
              ap (lines_from fold 2 (AtEvents heading [])) none ∙ r.read,
              ap (λ (ls : List (List ℕ)). length ls) none ∙ r.many,
            )
        go older line before l false false same r =
            let left = left_over heading h in
            let many = r.many in
            let sooner : 2 + length (lines_but numbers 2 older) ≤ length h + 2 = omega (arith, left, many) in (
              lines-append fold 2 (AtEvents heading []) (AtEvents heading rest) (lines_but numbers 2 older) (line ∷ []) r.read
                  ∙ ap (passes_to (λ next. Some next))
                  (line_again spares (2 + length (lines_but numbers 2 older)) h line e (logs.kept Patterns limits heading older h before) l sooner),
              length-append (lines_but numbers 2 older) (line ∷ []) ∙ omega (arith, many),
            )
        go older line before l true false same r = absurd (true≢false same)
        go older line before l false true same r = absurd (true≢false (sym same))

        by : (older : List (List ℕ)) (line : List ℕ) → EventLines older h → EventLine h line e
            → among (2 + length older) numbers ≡ is_idle heading h e
            → Reread numbers older h → Reread numbers (older ++ line ∷ []) (e ∷ h)
        by older line before l same r =
            let k = go older line before l (among (2 + length older) numbers) (is_idle heading h e) same r in
            let seam = lines_but-append numbers 2 older (line ∷ []) in
            record {
              read = ap (lines_from fold 2 (AtEvents heading [])) seam ∙ k.0;
              many = ap (λ (ls : List (List ℕ)). length ls) seam ∙ k.1;
            }

-- ---- a log that is accepted

-- the laws of the crates below on lines that are read and written
pub record OnLines : Type 0 where
  pub headers : HeadersAreInRange
  pub items : ItemsFit
  pub lines : WrittenIsALine
  pub read : WrittenIsRead
  pub once : (heading : Heading) (line : List ℕ) (item : Item) → item_of heading line ≡ Ok item → line ≡ item_line item

accepted_at_end : (limits : Limits) (n : ℕ) (h : List Event) → ending_from (fold limits) n (AtEnd h) [] []
    ≡ record { says = unrefused h (Accepted (length h)); unread = [] }
unfolding end_by judging
accepted_at_end limits n h = refl

plain_front : (lines more : List (List ℕ)) → plain_lines (lines ++ more) ≡ true → plain_lines lines ≡ true
plain_front [] more clean = refl
plain_front (line ∷ lines) more clean =
    let parts = and_parts (plain line) (plain_lines (lines ++ more)) clean in
    and_from (plain line) (plain_lines lines) parts.0 (plain_front lines more parts.1)

module _ (limits : Limits) (facts : OnLines) (bytes : List ℕ) (count : ℕ)
    (accepted : verdict_of_bytes Patterns limits bytes ≡ Accepted count) where
  abbrev Parts : Type 0
  Parts = logs.Parts Patterns limits bytes count accepted

  abbrev parts : Parts
  parts = logs.parts Patterns limits bytes count accepted

  -- with no line taken out it is as it was
  pub as_it_was : text_but [] count bytes ≡ bytes
  as_it_was =
      let p = parts in
      let same : count - 0 ≡ count = omega arith in
      let last : item_line (item.End (count - 0)) ≡ p.ends.last =
      ap (λ (n : ℕ). item_line (item.End n)) same ∙ sym (facts.once p.start.heading p.ends.last (item.End count) p.is_end) in
      ap (λ (ls : List (List ℕ)). bytes_of (ls ++ item_line (item.End (count - 0)) ∷ []) [])
      (none_out 1 (take (suc count) (text_of bytes).lines) ∙ p.front)
      ∙ ap (λ (line : List ℕ). bytes_of ((p.start.line ∷ p.ends.events) ++ line ∷ []) []) last
      ∙ ap (λ (ls : List (List ℕ)). bytes_of ls []) (sym p.whole)
      ∙ ap (bytes_of (text_of bytes).lines) (sym p.nothing)
      ∙ bytes_of-text_of bytes

  -- without the lines of its idle events it is accepted
  still_for : ((heading : Heading) → heading_ok heading ≡ true → Spares limits heading) → (p : Parts) → StaysAccepted limits bytes count p.start.heading p.h
  still_for spares p =
      ap (λ (ls : List (List ℕ)). outcome_of Patterns limits (bytes_of (ls ++ end ∷ []) [])) (ap (lines_but numbers 1) p.front ∙ front)
      ∙ ap (λ (t : Text). ending_from (fold limits) 1 AtHeader t.lines t.rest) (text_of-bytes_of new [] clean refl)
      ∙ ap (λ (ls : List (List ℕ)). ending_from (fold limits) 1 AtHeader ls []) (sym (append-nil new))
      ∙ passed (fold limits) 1 (1 + length new) AtHeader (AtEnd rest) new [] [] refl read
      ∙ accepted_at_end limits (1 + length new) rest
      ∙ ap (λ (n : ℕ). record { says = unrefused rest (Accepted n); unread = [] }) (sym left)
    where
      g : Heading
      g = p.start.heading

      ok : heading_ok g ≡ true
      ok = facts.headers p.start.line g p.start.spells

      numbers : List ℕ
      numbers = idle_numbers g p.h

      rest : List Event
      rest = without_idle g p.h

      end : List ℕ
      end = item_line (item.End (count - length numbers))

      kept_lines : List (List ℕ)
      kept_lines = lines_but numbers 2 p.ends.events

      new : List (List ℕ)
      new = (p.start.line ∷ kept_lines) ++ end ∷ []

      front : lines_but numbers 1 (p.start.line ∷ p.ends.events) ≡ p.start.line ∷ kept_lines
      front = ap (λ (b : Bool). cond b kept_lines (p.start.line ∷ kept_lines)) (header_stays (idle_marks g p.h))

      left : count - length numbers ≡ length rest
      left = let all = left_over g p.h in let same = p.counted in omega (arith, all, same)

      fits : item_fits g (item.End (count - length numbers)) ≡ true
      fits = let few = ltb-true count (2 ^ 32) (facts.items g p.ends.last (item.End count) p.is_end) in
          lt-ltb (count - length numbers) (2 ^ 32) (omega (arith, few))

      short : is_too_long end ≡ false
      short = let few = facts.lines.item_short g (item.End (count - length numbers)) ok fits in grind (arith, nat_tests, few)

      again : Reread limits g numbers p.ends.events p.h
      again = reread limits g (spares g ok) numbers p.ends.events p.h p.ends.are_events (agree g p.h)

      at_end : turned_by (fold limits) (2 + length kept_lines) (AtEvents g rest) end ≡ Passes (AtEnd rest)
      at_end =
          logs.passing Patterns limits (2 + length kept_lines) (AtEvents g rest) end short
          ∙ ap (after_item Patterns limits (2 + length kept_lines) g rest) (facts.read.item g (item.End (count - length numbers)) ok fits)
          ∙ ap (λ (b : Bool). cond b (Passes (AtEnd rest)) (Halts (unrefused rest (Malformed (2 + length kept_lines) WrongCount))))
          (eq-eqb (count - length numbers) (length rest) left)

      read : lines_from (fold limits) 1 AtHeader new ≡ Some (AtEnd rest)
      read =
          ap (passes_to (λ next. lines_from (fold limits) 2 next (kept_lines ++ end ∷ []))) p.start.passes
          ∙ lines-append (fold limits) 2 (AtEvents g []) (AtEvents g rest) kept_lines (end ∷ []) again.read
          ∙ ap (passes_to (λ next. Some next)) at_end

      clean : plain_lines new ≡ true
      clean =
          let all = subst (λ (ls : List (List ℕ)). plain_lines ls ≡ true) p.whole (plain_text bytes).0 in
          let both = and_parts (plain p.start.line) (plain_lines (p.ends.events ++ p.ends.last ∷ [])) all in
          plain_lines-append (p.start.line ∷ kept_lines) (end ∷ [])
          (and_from (plain p.start.line) (plain_lines kept_lines) both.0
          (plain_but numbers 2 p.ends.events (plain_front p.ends.events (p.ends.last ∷ []) both.1)))
          (and_from (plain end) true (plain_is end ∙ facts.lines.item_plain g (item.End (count - length numbers)) fits) refl)

  pub still_accepted : ((heading : Heading) → heading_ok heading ≡ true → Spares limits heading) → (heading : Heading)
      → heading_in (text_of bytes).lines ≡ Some heading → StaysAccepted limits bytes count heading (outcome_of Patterns limits bytes).says.log
  still_accepted spares heading header =
      let p = parts in
      let of_line : Some p.start.heading ≡ Some heading =
      sym (ap heading_in p.whole ∙ ap result_ok p.start.spells) ∙ header in
      let same : p.start.heading ≡ heading = cc in
      subst (λ (h : List Event). StaysAccepted limits bytes count heading h) (sym p.logged)
      (subst (λ (g : Heading). StaysAccepted limits bytes count g p.h) same (still_for spares p))
