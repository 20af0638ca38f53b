-- The reader that judges events: its parts, its lines, and which bytes are read for a verdict.
use Rattle.bbm_session.proofs.Common.{IfErr, item_fits, Heading, Verdict, Accepted, Refused, Malformed, Limit, Patterns}
use Rattle.bbm_session.proofs.Common.{Limits, limit_after, Command, Check, Slow, Explain, Walk, Show, Decision, Stop}
use Rattle.bbm_session.proofs.Common.{Decided, ReadFault, NoMemory, Turn, Taken, End, Reader, alone, IsStart, IsInside}
use Rattle.bbm_session.proofs.Common.{IsEnd, Judges, event_needs, is_frugal, log_reader, NeedsMemory, ReadFor, Keeps}
use Rattle.bbm_session.proofs.Common.{KnowsThat, MayTakeLine, KnowsAt, KnowsWhy, RefusedOn, FoldsLine, Ends}
use Rattle.bbm_rules.proofs.Common.{◌≡◌, ◌≢◌, not, ℕ, ◌<◌, ◌+◌, Bool, true, false, if◌then◌else◌, List, [], ◌∷◌, length}
use Rattle.bbm_rules.proofs.Common.{Option, Some, None, refl, ap, sym, arith, subst, ◌^◌, Result, Ok, Err, IfOk, ◌==◌}
use Rattle.bbm_rules.proofs.Common.{inl, inr, and_parts, not-true, Which, Item, fits_heading, label_fits, WrongCount}
use Rattle.bbm_rules.proofs.Common.{rewrites, Breach, limit_of, Text, Turned, Halts, Passes, limit_at, AtHeader}
use Rattle.bbm_rules.proofs.Common.{AtEvents, AtEnd, Judged, after_item, after_judged, after_kept, unrefused, Progress}
use Rattle.bbm_rules.proofs.Common.{outcome_of, verdict_of_bytes, events_in, text_of}
use Rattle.std.proofs.Common.{OnOk}
use Rattle.bbm_lemmas.proofs.Bools.{not_from}
use Rattle.bbm_events.specs.declared.event.Event.{Event as EventOf}
use Rattle.bbm_events.specs.declared.event.Item.TheVariants as item
use Rattle.bbm_events.specs.declared.malformed.Malformed.{Malformed as Cause}
use Rattle.bbm_events.specs.Lines.{item_of}
use Rattle.bbm_rules.specs.declared.step_fault.StepFault.{StepFault}
use Rattle.bbm_rules.specs.declared.step_fault.StepFault.TheVariants as step_fault
use Rattle.bbm_rules.proofs.Folds.{Turns as TurnsBy}
use Rattle.bbm_rules.specs.Answers.{takes_no_memory}
use Rattle.bbm_rules.specs.Broken.{broken}
use Rattle.bbm_rules.specs.Outcome.{after_event, judging}
use Rattle.bbm_session.specs.Readers.{StopsKnown, item_needs, line_needs}
use Rattle.bbm_session.specs.Run.{EventNeeds, ItemNeeds, NeedsRoom, ReadTo, UpTo}
use Rattle.bbm_texts.specs.Known.{TellsEvent}
use Rattle.bbm_session.specs.Stages.{StopsAt, MayJudge, JudgesLine}
use Rattle.bbm_rules.proofs.AcceptedLogs as logs
use Rattle.bbm_rules.proofs.AcceptedLogs.{judged_line, named_line}
use Rattle.bbm_session.proofs.ReadBytes.{ByName, read-by}

-- ---- an event

-- where a frugal checker may have found no memory
pub needed : (frugal : Bool) (heading : Heading) (h : List EventOf) (e : EventOf) (r : Result (Unit {0}) StepFault) → (frugal ≡ true → takes_no_memory e ≡ true → r ≢ Err step_fault.NoMemory)
    → (frugal ≡ true → rewrites heading h e ≡ true → r ≢ Err step_fault.NoMemory) → r ≡ Err step_fault.NoMemory → event_needs frugal heading h e ≡ true
needed true heading h e r barriers writes is =
    let first = not_from (takes_no_memory e) (λ (t : takes_no_memory e ≡ true). barriers refl t is) in
    let second = not_from (rewrites heading h e) (λ (t : rewrites heading h e ≡ true). writes refl t is) in
    rw (first, second) refl
needed false heading h e r barriers writes is = refl

-- an event that fits and breaks no rule, behind others
pub keeps-more : (stands stands' : Heading → List EventOf → Type 0) (heading : Heading) (h : List EventOf) (e : EventOf) → Keeps stands heading h → fits_heading heading e ≡ true → broken heading Patterns h e ≡ None → stands' heading (e ∷ h) → Keeps stands' heading (e ∷ h)
keeps-more stands stands' heading h e kept fits unbroken known = record {
  known = known;
  fit = rw (fits, kept.fit) refl;
  rules = rw (kept.rules, unbroken) refl;
}

-- a checker that stands for the same events still
pub keeps-on : (stands stands' : Heading → List EventOf → Type 0) (heading : Heading) (h : List EventOf)
    → Keeps stands heading h → stands' heading h → Keeps stands' heading h
keeps-on stands stands' heading h kept known = record { known = known; fit = kept.fit; rules = kept.rules }

module _ (stands : Heading → List EventOf → Type 0) (limits : Limits) (heading : Heading) where
  refused-at : (wants : Type 0) (s : Stop) (n : ℕ) (h : List EventOf) (e : EventOf) (label : Option (List ℕ))
      (breach : Option Breach) (which : Option Which) → which ≡ limit_of h e → Keeps stands heading h
      → (s ≡ NoMemory → wants) → StopsAt s n e label breach which
      → JudgesLine stands heading h wants (Err s) (after_judged limits n heading h e label breach)
  refused-at wants (Decided d) n h e label (Some breach) which same kept want stops =
      subst (λ (x : Decision). JudgesLine stands heading h wants (Err (Decided x))
      (after_judged limits n heading h e label (Some breach))) (sym stops) (refl, kept)
  refused-at wants (Decided d) n h e label None (Some which) same kept want stops =
      let step = ap (λ (l : Option Which). after_kept n heading h e (limit_at limits n h l)) (sym same) in
      subst (λ (x : Decision). JudgesLine stands heading h wants (Err (Decided x))
      (after_judged limits n heading h e label None)) (sym stops) (step, tt)
  refused-at wants (Decided d) n h e label None None same kept want stops = absurd stops
  refused-at wants ReadFault n h e label (Some breach) which same kept want stops = absurd stops
  refused-at wants ReadFault n h e label None which same kept want stops = absurd stops
  refused-at wants NoMemory n h e label breach which same kept want stops = want refl

  pub event-refused : (wants : Type 0) (s : Stop) (n : ℕ) (h : List EventOf) (e : EventOf) (label : Option (List ℕ)) → Keeps stands heading h → (s ≡ NoMemory → wants) → StopsAt s n e label (broken heading Patterns h e) (limit_of h e) → JudgesLine stands heading h wants (Err s) (after_event Patterns limits n heading h e label)
  event-refused wants s n h e label kept want stops = refused-at wants s n h e label (broken heading Patterns h e) (limit_of h e) refl kept want stops

  kept-event : (n : ℕ) (h : List EventOf) (e : EventOf) (label : Option (List ℕ)) (which : Option Which) → broken heading Patterns h e ≡ None → limit_of h e ≡ None → limit_after limits n (length h) ≡ which → after_event Patterns limits n heading h e label ≡ after_kept n heading h e which
  kept-event n h e label which kept free reached = rw (kept, free, reached) refl

  pub event-kept : (n : ℕ) (h : List EventOf) (e : EventOf) (label : Option (List ℕ)) → broken heading Patterns h e ≡ None → limit_of h e ≡ None → limit_after limits n (length h) ≡ None → after_event Patterns limits n heading h e label ≡ Passes (AtEvents heading (e ∷ h))
  event-kept n h e label kept free reached = kept-event n h e label None kept free reached

-- what was read of a line can be judged
pub may-judge : (frugal : Bool) (stands : Heading → List EventOf → Type 0) (limits : Limits) (heading : Heading) (n : ℕ) (read : Result Item Cause) → MayTakeLine (Judges frugal stands limits) heading n → n < 2 ^ 64 → IfOk read (λ item. item_fits heading item ≡ true) → MayJudge stands read
may-judge frugal stands limits heading n (Ok (item.Event event label)) at small fits =
    (heading, at.2.h, at.2.keeps.known, (and_parts (fits_heading heading event) (label_fits heading.version label) fits).0, omega (arith, at.2.number, small))
may-judge frugal stands limits heading n (Ok (item.End count)) at small fits = tt
may-judge frugal stands limits heading n (Err cause) at small fits = tt

-- ---- the parts of a log

pub judging-start : (frugal : Bool) (limits : Limits)
    → IsStart (log_reader frugal limits) AtHeader (λ heading. AtEvents heading [])
unfolding judging
judging-start frugal limits = record { line = λ l. refl; long = refl; cut = λ rest. refl }

pub judging-inside : (frugal : Bool) (limits : Limits) (heading : Heading) (h : List EventOf)
    → IsInside (log_reader frugal limits) (AtEvents heading h)
unfolding judging
judging-inside frugal limits heading h = record { long = λ n. refl; cut = λ n rest. refl }

judging-end : (frugal : Bool) (limits : Limits) (heading : Heading) (h : List EventOf)
    → IsEnd (log_reader frugal limits) (AtEvents heading h) (AtEnd h)
unfolding judging
judging-end frugal limits heading h =
    record { line = λ n l. refl; long = λ n. refl; nothing = λ n. refl; more = λ n b rest. refl }

-- ---- a line

knows-more : (a b : Type 0) (v : Verdict) → (a → b) → KnowsThat a v → KnowsThat b v
knows-more a b (Accepted events) more known = more known
knows-more a b (Refused line rule at label) more known = more known
knows-more a b (Malformed line cause) more known = tt
knows-more a b (Limit line which) more known = tt

judged-at : (frugal : Bool) (stands : Heading → List EventOf → Type 0) (limits : Limits) (heading : Heading)
    (h : List EventOf) (n : ℕ) (line : List ℕ) (r : Result Turn Stop) → n ≡ length h + 2
    → JudgesLine stands heading h (item_needs frugal heading h (item_of heading line) ≡ true) r
    (after_item Patterns limits n heading h (item_of heading line))
    → FoldsLine (log_reader frugal limits) (Judges frugal stands limits (log_reader frugal limits) heading) n
    (AtEvents heading h) line r
unfolding judging
judged-at frugal stands limits heading h n line (Ok Taken) number judged = (
  AtEvents heading judged.0,
  judged.1,
  judging-inside frugal limits heading judged.0,
  record { h = judged.0; reader_is = refl; is = refl; keeps = judged.2; number = omega (arith, judged.3, number) },
)
judged-at frugal stands limits heading h n line (Ok End) number judged = (
  AtEnd h,
  judged.0,
  judging-end frugal limits heading h,
  record { h = h; reader_is = refl; is = refl; keeps = judged.1; number = number },
)
judged-at frugal stands limits heading h n line (Err (Decided d)) number judged = (
  judged.0,
  knows-more (Keeps stands heading h)
      (Judges frugal stands limits (log_reader frugal limits) heading (AtEvents heading h) n) d.verdict
      (λ kept. record { h = h; reader_is = refl; is = refl; keeps = kept; number = number }) judged.1,
)
judged-at frugal stands limits heading h n line (Err ReadFault) number judged = absurd judged
judged-at frugal stands limits heading h n line (Err NoMemory) number judged = judged

pub judged-takes : (frugal frugal' : Bool) (stands stands' : Heading → List EventOf → Type 0) (limits limits' : Limits)
    (heading : Heading) (reader : Reader Progress Judged) (p : Progress) (n : ℕ) (line : List ℕ) (read : Result Item Cause)
    (r : Result Turn Stop) → frugal' ≡ frugal → limits' ≡ limits → Judges frugal stands limits reader heading p n
    → read ≡ item_of heading line
    → ((h : List EventOf) → Keeps stands heading h → JudgesLine stands' heading h
    (item_needs frugal heading h read ≡ true) r (after_item Patterns limits n heading h read))
    → FoldsLine reader (Judges frugal' stands' limits' reader heading) n p line r
judged-takes frugal frugal' stands stands' limits limits' heading reader p n line read r same within judges is says =
    let judged = subst (λ (x : Result Item Cause). JudgesLine stands' heading judges.h
    (item_needs frugal heading judges.h x ≡ true) r (after_item Patterns limits n heading judges.h x)) is
    (says judges.h judges.keeps) in
    let at = judged-at frugal stands' limits heading judges.h n line r judges.number judged in
    subst (λ (l : Limits). FoldsLine reader (Judges frugal' stands' l reader heading) n p line r) (sym within)
    (subst (λ (b : Bool). FoldsLine reader (Judges b stands' limits reader heading) n p line r) (sym same)
    (subst (λ (x : Reader Progress Judged). FoldsLine x (Judges frugal stands' limits x heading) n p line r)
    (sym judges.reader_is)
    (subst (λ (q : Progress). FoldsLine (log_reader frugal limits)
    (Judges frugal stands' limits (log_reader frugal limits) heading) n q line r) (sym judges.is) at)))

-- ---- the whole log

-- what a checker stands for where reading stopped
known-events : (stands : Heading → List EventOf → Type 0) (frugal frugal' : Bool) (limits limits' : Limits) (heading : Heading) (q : Progress) (m : ℕ) → Judges frugal' stands limits' (log_reader frugal limits) heading q m → Keeps stands heading (events_in q)
known-events stands frugal frugal' limits limits' heading q m judges = subst (λ (x : Progress). Keeps stands heading (events_in x)) (sym judges.is) judges.keeps

-- what holds of events holds of those that are read behind this header, and of those before the line that decides; and
-- an event that is refused is told
module _ (heading : Heading) (Holds : List EventOf → Type 0) where
  abbrev pub Reads : Progress → Type 0
  Reads AtHeader = ⊥
  Reads (AtEvents other h) = (other ≡ heading) × Holds h
  Reads (AtEnd h) = Holds h

  abbrev pub Tells : Judged → Type 0
  Tells judged = Holds judged.log × TellsEvent heading judged.log judged.verdict judged.refused

  abbrev pub ReadsOrTells : Turned Progress Judged → Type 0
  ReadsOrTells t = TurnsBy Reads Tells t

-- so it is behind each line, where it lasts over an event that fits and breaks no rule
module _ (limits : Limits) (heading : Heading) (Holds : List EventOf → Type 0)
    (lasts : (h : List EventOf) (e : EventOf) → Holds h → fits_heading heading e ≡ true
    → broken heading Patterns h e ≡ None → Holds (e ∷ h)) (n : ℕ) (h : List EventOf) (holds : Holds h) where
  tells-kept : (e : EventOf) (limit : Option Which) → Holds (e ∷ h)
      → ReadsOrTells heading Holds (after_kept n heading h e limit)
  tells-kept e (Some which) next = (holds, tt)
  tells-kept e None next = (refl, next)

  tells-judged : (e : EventOf) (label : Option (List ℕ)) (breach : Option Breach) → broken heading Patterns h e ≡ breach
      → fits_heading heading e ≡ true → ReadsOrTells heading Holds (after_judged limits n heading h e label breach)
  tells-judged e label (Some breach) broke fits = (holds, (e, refl, record { fits = fits; breaks = broke }))
  tells-judged e label None broke fits =
      tells-kept e (limit_at limits n h (limit_of h e)) (lasts h e holds fits broke)

  tells-end : (b : Bool)
      → ReadsOrTells heading Holds (if b then Passes (AtEnd h) else Halts (unrefused h (Malformed n WrongCount)))
  tells-end true = holds
  tells-end false = (holds, tt)

  pub tells-item : (read : Result Item Cause) → IfOk read (λ i. item_fits heading i ≡ true)
      → ReadsOrTells heading Holds (after_item Patterns limits n heading h read)
  tells-item (Ok (item.Event e label)) fits = tells-judged e label (broken heading Patterns h e) refl
      (and_parts (fits_heading heading e) (label_fits heading.version label) fits).0
  tells-item (Ok (item.End count)) fits = tells-end (count == length h)
  tells-item (Err cause) fits = (holds, tt)

-- what is read of a line fits its header
abbrev pub AllFit : Type 0
AllFit = (heading : Heading) (line : List ℕ) (i : Item) → item_of heading line ≡ Ok i → item_fits heading i ≡ true

pub fits-read : AllFit → (heading : Heading) (line : List ℕ) → IfOk (item_of heading line) (λ i. item_fits heading i ≡ true)
fits-read all heading line = by (item_of heading line) (all heading line)
  where
    by : (read : Result Item Cause) → ((i : Item) → read ≡ Ok i → item_fits heading i ≡ true) → IfOk read (λ i. item_fits heading i ≡ true)
    by (Ok i) fits = fits i refl
    by (Err cause) fits = tt

tells-event : AllFit → (frugal : Bool) (limits : Limits) (heading : Heading) (h : List EventOf) (n : ℕ) (d : Decision)
    (v : Verdict) → d.verdict ≡ v → RefusedOn (log_reader frugal limits) n (AtEvents heading h) d v
    → TellsEvent heading h v d.refused
unfolding judging
tells-event all frugal limits heading h n d (Accepted events) same on = tt
tells-event all frugal limits heading h n d (Refused line rule at label) same on =
    subst (λ (w : Verdict). TellsEvent heading h w d.refused) same
    (subst (λ (t : Turned Progress Judged). ReadsOrTells heading (λ events. Unit {0}) t) on.1
    (tells-item limits heading (λ events. Unit {0}) (λ h e holds fits unbroken. tt) n h tt (item_of heading on.0)
    (fits-read all heading on.0))).1
tells-event all frugal limits heading h n d (Malformed line cause) same on = tt
tells-event all frugal limits heading h n d (Limit line which) same on = tt

knows-at : AllFit → (stands : Heading → List EventOf → Type 0) (frugal frugal' : Bool) (limits limits' : Limits) (heading : Heading) (q : Progress) (m : ℕ) (d : Decision) (v : Verdict) → d.verdict ≡ v
    → KnowsThat (Judges frugal' stands limits' (log_reader frugal limits) heading q m) v → RefusedOn (log_reader frugal limits) m q d v
    → KnowsThat (Keeps stands heading (events_in q)) v × TellsEvent heading (events_in q) v d.refused
knows-at all stands frugal frugal' limits limits' heading q m d (Accepted events) same judges on = (known-events stands frugal frugal' limits limits' heading q m judges, tt)
knows-at all stands frugal frugal' limits limits' heading q m d (Refused line rule at label) same judges on =
    let at_events = subst (λ (x : Progress). RefusedOn (log_reader frugal limits) m x d (Refused line rule at label)) judges.is on in
    let tells = tells-event all frugal limits heading judges.h m d (Refused line rule at label) same at_events in
    (known-events stands frugal frugal' limits limits' heading q m judges, subst (λ (x : Progress). TellsEvent heading (events_in x) (Refused line rule at label) d.refused) (sym judges.is) tells)
knows-at all stands frugal frugal' limits limits' heading q m d (Malformed line cause) same judges on = (tt, tt)
knows-at all stands frugal frugal' limits limits' heading q m d (Limit line which) same judges on = (tt, tt)

knows-events : AllFit → (stands : Heading → List EventOf → Type 0) (frugal frugal' : Bool) (limits limits' : Limits) (heading : Heading) (q : Progress) (m : ℕ) (s : Stop)
    → KnowsWhy (log_reader frugal limits) (Judges frugal' stands limits' (log_reader frugal limits) heading) m q s → KnowsAt stands heading (events_in q) s
knows-events all stands frugal frugal' limits limits' heading q m (Decided d) known = knows-at all stands frugal frugal' limits limits' heading q m d d.verdict refl known.0 known.1
knows-events all stands frugal frugal' limits limits' heading q m ReadFault known = tt
knows-events all stands frugal frugal' limits limits' heading q m NoMemory known = tt

pub judged-ends : AllFit → (stands : Heading → List EventOf → Type 0) (frugal frugal' : Bool) (limits limits' : Limits) (heading : Heading) (p : Progress) (r : Result (Unit {0}) Stop) (stop : Stop) (old new : Option (List ℕ)) (f f' : ℕ) → Ends (log_reader frugal limits) (Judges frugal' stands limits' (log_reader frugal limits) heading) p r old new f f' → ((h : List EventOf) → stands heading h → OnOk r (stop ≡ Decided (alone (Accepted (length h))))) → IfErr r (λ s. stop ≡ s) → StopsKnown frugal stands limits heading p stop old new f f'
judged-ends all stands frugal frugal' limits limits' heading p (Ok u) stop old new f f' ends accepted stopped =
    let q = ends.0 in
    let kept = known-events stands frugal frugal' limits limits' heading q ends.1 ends.3 in
    let is = accepted (events_in q) kept.known in
    subst (λ (s : Stop). StopsKnown frugal stands limits heading p s old new f f') (sym is)
    (record { reached = q; stops = (ends.2, ends.4); known = (kept, tt) })
judged-ends all stands frugal frugal' limits limits' heading p (Err s) stop old new f f' ends accepted stopped =
    subst (λ (x : Stop). StopsKnown frugal stands limits heading p x old new f f') (sym stopped)
    (record { reached = ends.0; stops = ends.2; known = knows-events all stands frugal frugal' limits limits' heading ends.0 ends.1 s ends.3 })

-- ---- the line that a verdict names

up_to : (line : ℕ) (read : Text) (unread : List ℕ) → ByName 1 (Some line) read unread → UpTo line read unread
up_to line read unread (inl (count, none)) = inl (omega (arith, count), none)
up_to line read unread (inr (count, end)) = inr (omega (arith, count), end)

pub read_for : (v : Verdict) (read : Text) (unread : List ℕ) → ByName 1 (named_line v) read unread → ReadFor v read unread
read_for (Accepted events) read unread f = f
read_for (Refused line rule at label) read unread f = up_to line read unread f
read_for (Malformed line cause) read unread f = up_to line read unread f
read_for (Limit line which) read unread f = up_to line read unread f

module _ (limits : Limits) where
  -- what is left unread, where the rest was read
  pub read-to : (bytes : List ℕ) (left : Option (List ℕ)) → left ≡ Some (outcome_of Patterns limits bytes).unread
      → ReadTo bytes (verdict_of_bytes Patterns limits bytes) left
  read-to bytes left is =
      let o = outcome_of Patterns limits bytes in
      let k = read-by (judging Patterns limits) judged_line (logs.names Patterns limits) AtHeader bytes in
      (k.0, o.unread, k.1, is, read_for o.says.verdict (text_of k.0) o.unread k.2)

-- ---- the line for which there was no memory

needs-room : (heading : Heading) (h : List EventOf) (e : EventOf) → event_needs true heading h e ≡ true → NeedsRoom heading h e
needs-room heading h e is =
    let both = and_parts (not (takes_no_memory e)) (not (rewrites heading h e)) is in
    (not-true (takes_no_memory e) both.0, not-true (rewrites heading h e) both.1)

needs-event : (command : Command) (heading : Heading) (h : List EventOf) (e : EventOf) → event_needs (is_frugal command) heading h e ≡ true → EventNeeds command heading h e
needs-event Slow heading h e is = tt
needs-event (Show evidence) heading h e is = tt
needs-event Check heading h e is = needs-room heading h e is
needs-event Explain heading h e is = needs-room heading h e is
needs-event (Walk question) heading h e is = needs-room heading h e is

needs-item : (command : Command) (heading : Heading) (h : List EventOf) (r : Result Item Cause) → item_needs (is_frugal command) heading h r ≡ true → ItemNeeds command heading h r
needs-item command heading h (Ok (item.Event event label)) is = needs-event command heading h event is
needs-item command heading h (Ok (item.End count)) is = cc
needs-item command heading h (Err cause) is = cc

pub needs-memory : (command : Command) (p : Progress) (line : List ℕ) → line_needs (is_frugal command) p line ≡ true → NeedsMemory command p line
needs-memory command AtHeader line needs = needs
needs-memory command (AtEvents heading h) line needs = needs-item command heading h (item_of heading line) needs
needs-memory command (AtEnd h) line needs = cc
