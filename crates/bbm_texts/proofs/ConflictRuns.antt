-- The text of a conflict run, line by line, and what is known of a log whose last event is refused.
use Rattle.bbm_texts.proofs.Common.{Heading, Event, Init, Null, Root, Unroot, Write, Dsb, Dmb, Isb, Tlbi, Msr, Lock}
use Rattle.bbm_texts.proofs.Common.{Unlock, Failed, Patterns, Status, Decision, Rule, WrongWorld, NoLock, NullWritten}
use Rattle.bbm_texts.proofs.Common.{BreakBeforeMake, LimboMake, NotFresh, RewrittenFresh, BadKind, GlobalUser}
use Rattle.bbm_texts.proofs.Common.{PageInUse, NoRoot, TagConflict, RootInUse, UnsyncedVmid, BadOperand, LockBusy}
use Rattle.bbm_texts.proofs.Common.{LockNotMine, TableMapped, Verdict, Accepted, Refused, Malformed, Limit}
use Rattle.bbm_texts.proofs.Common.{refused_write, step_line}
use Rattle.bbm_texts.proofs.Common.{step_lines, Show, Counterrun, ended, MayShowEvidence, status_of, Keeps, KnowsThat}
use Rattle.bbm_texts.proofs.Common.{TellsEvent, Pours, Puts, ReportsDecided, ReportsText, Wrote, Step}
use Rattle.bbm_rules.proofs.Common.{◌≡◌, ℕ, zero, suc, ◌+◌, ◌<◌, true, Bool, List, [], ◌∷◌, ◌++◌, length, map, take}
use Rattle.bbm_rules.proofs.Common.{drop, get_or, reverse, Option, Some, None, Result, Err, refl, ap, sym, ◌∙◌, subst}
use Rattle.bbm_rules.proofs.Common.{append_assoc, append-nil, IfSome, option_map, inl, inr, false≢true, length-reverse}
use Rattle.bbm_rules.proofs.Common.{reverse-append, reverse-reverse, take-append-drop, take_more, AllPass-from_list_all}
use Rattle.bbm_rules.proofs.Common.{and_from, fits_heading, Combine, Drop}
use Rattle.std.proofs.Common.{All}
use Rattle.std.proofs.lemmas.List.Elements.{All-append, All-cons, All-drop, All-head, All-map, All-nil, All-push}
use Rattle.std.proofs.lemmas.List.Elements.{All-tail, All-take}
use Rattle.bbm_counterrun.specs.Plans.{Finds, Plan, Read, behind, combine_of, drops, extends, run_of, walk_of}
use Rattle.bbm_counterrun.specs.RefusedWrite.{IsRefused, ends_at_leaf, holds_leaf}
use Rattle.bbm_rules.specs.Broken.{broken}
use Rattle.bbm_texts.specs.Counterruns.{RunAt, RunOf, found_steps, refused_by}
use Rattle.bbm_texts.specs.RefusedLogs.{EndsRefused, Fits}
use Rattle.bbm_texts.specs.Known.{all_fit}
use Rattle.bbm_texts.proofs.Pouring.{pours-longer}
use Rattle.bbm_texts.proofs.Refusals.{write-place}
use Rattle.bbm_tlb_machine.specs.declared.step.Step.TheVariants.{Machine, Event as Taken}

-- ---- the lines of steps

lines-append : (one other : List Step) → step_lines (one ++ other) ≡ step_lines one ++ step_lines other
lines-append [] other = refl
lines-append (s ∷ one) other =
    ap (λ (text : List ℕ). ended (step_line s) ++ text) (lines-append one other) ∙ sym (append_assoc (ended (step_line s)) (step_lines one) (step_lines other))

-- the lines of the first steps and of one more
pub lines-more : (steps : List Step) (i : ℕ) (d : Step) → i < length steps
    → step_lines (take (i + 1) steps) ≡ step_lines (take i steps) ++ ended (step_line (get_or steps i d))
lines-more steps i d below =
    ap step_lines (take_more steps i d below) ∙ lines-append (take i steps) (get_or steps i d ∷ [])
    ∙ ap (λ (text : List ℕ). step_lines (take i steps) ++ text) (append-nil (ended (step_line (get_or steps i d))))

-- a write failed at the line of a step, of which more follow
pub lines-cut : (text : List ℕ) (steps : List Step) (i : ℕ) (d : Step) (e : Failed) (buffer : List ℕ) (old new : Option (List ℕ)) (f f' : ℕ) → i < length steps
    → Pours ((text ++ step_lines (take i steps)) ++ ended (step_line (get_or steps i d))) (Err e) buffer old new f f' → Pours (text ++ step_lines steps) (Err e) buffer old new f f'
lines-cut text steps i d e buffer old new f f' below pours =
    let first = take (i + 1) steps in
    let rest = step_lines (drop (i + 1) steps) in
    let whole : text ++ step_lines steps ≡ ((text ++ step_lines (take i steps)) ++ ended (step_line (get_or steps i d))) ++ rest =
    ap (λ (ss : List Step). text ++ step_lines ss) (sym (take-append-drop (i + 1) steps))
    ∙ ap (λ (t : List ℕ). text ++ t) (lines-append first (drop (i + 1) steps))
    ∙ sym (append_assoc text (step_lines first) rest)
    ∙ ap (λ (t : List ℕ). (text ++ t) ++ rest) (lines-more steps i d below)
    ∙ ap (λ (t : List ℕ). t ++ rest) (sym (append_assoc text (step_lines (take i steps)) (ended (step_line (get_or steps i d))))) in
    subst (λ (t : List ℕ). Pours t (Err e) buffer old new f f') (sym whole)
    (pours-longer ((text ++ step_lines (take i steps)) ++ ended (step_line (get_or steps i d))) rest e buffer old new f f' pours)

-- ---- each step fits the header

extends-fit : (heading : Heading) (n : ℕ) (rs : List Read) → All (Fits heading) (extends n rs)
extends-fit heading n [] = All-nil (Fits heading)
extends-fit heading n (r ∷ rs) = All-cons (Fits heading) _ (extends (suc n) rs) tt (extends-fit heading (suc n) rs)

drops-fit : (heading : Heading) (n k : ℕ) → All (Fits heading) (drops n k)
drops-fit heading n zero = All-nil (Fits heading)
drops-fit heading n (suc k) = All-cons (Fits heading) _ (drops (suc n) k) tt (drops-fit heading (suc n) k)

walk-fits : (heading : Heading) (plan : Plan) → All (Fits heading) (walk_of plan)
walk-fits heading plan =
    All-cons (Fits heading) _ (extends 1 plan.rest ++ drops 1 (length plan.rest)) tt
    (All-append (Fits heading) (extends 1 plan.rest) (drops 1 (length plan.rest)) (extends-fit heading 1 plan.rest) (drops-fit heading 1 (length plan.rest)))

combine-fits : (heading : Heading) (n : ℕ) → All (Fits heading) (combine_of n)
combine-fits heading n =
    All-cons (Fits heading) (Machine (Combine n)) (Machine (Drop n) ∷ []) tt (All-cons (Fits heading) (Machine (Drop n)) [] tt (All-nil (Fits heading)))

taken-fit : (heading : Heading) (events : List Event) → All (λ e. fits_heading heading e ≡ true) events → All (Fits heading) (map Taken events)
taken-fit heading events fit = All-map (Fits heading) Taken events fit

behind-fits : (heading : Heading) (plan : Plan) (o : Option ℕ) (events : List Event) → All (λ e. fits_heading heading e ≡ true) events → All (Fits heading) (behind plan o events)
behind-fits heading plan None events fit = taken-fit heading (drop plan.starts events) (All-drop (λ e. fits_heading heading e ≡ true) plan.starts events fit)
behind-fits heading plan (Some n) events fit =
    let P = λ (e : Event). fits_heading heading e ≡ true in
    let first = map Taken (drop plan.starts (take n events)) in
    let last = map Taken (drop n events) in
    let joined = combine_of (length (plan.first ∷ plan.rest)) in
    All-append (Fits heading) (first ++ joined) last
    (All-append (Fits heading) first joined (taken-fit heading (drop plan.starts (take n events)) (All-drop P plan.starts (take n events) (All-take P n events fit))) (combine-fits heading (length (plan.first ∷ plan.rest))))
    (taken-fit heading (drop n events) (All-drop P n events fit))

run-fits : (heading : Heading) (plan : Plan) (events : List Event) → All (λ e. fits_heading heading e ≡ true) events → All (Fits heading) (run_of plan events)
run-fits heading plan events fit =
    let P = λ (e : Event). fits_heading heading e ≡ true in
    let first = map Taken (take plan.starts events) in
    All-append (Fits heading) (first ++ walk_of plan) (behind plan plan.combines events)
    (All-append (Fits heading) first (walk_of plan) (taken-fit heading (take plan.starts events) (All-take P plan.starts events fit)) (walk-fits heading plan))
    (behind-fits heading plan plan.combines events fit)

-- ---- a log whose last event is refused

reversed-all : {X : Type 0} (P : X → Type 0) (xs : List X) → All P xs → All P (reverse xs)
reversed-all {X} P [] all = All-nil P
reversed-all {X} P (x ∷ xs) all =
    subst (All P) (sym (reverse-append (x ∷ []) xs)) (All-push P (reverse xs) x (reversed-all P xs (All-tail P x xs all)) (All-head P x xs all))

pub ends-fit : (heading : Heading) (h : List Event) (e : Event) (log : List Event) → EndsRefused heading h e log → All (λ e. fits_heading heading e ≡ true) log
ends-fit heading h e log ends =
    let P = λ (x : Event). fits_heading heading x ≡ true in
    let is : reverse (e ∷ h) ≡ log = ap (reverse {A = Event}) (sym ends.is) ∙ reverse-reverse log in
    subst (All P) is (reversed-all P (e ∷ h) (AllPass-from_list_all (fits_heading heading) (e ∷ h) ends.fit))

-- what a search for a run says, at each last event of the log that is refused so
abbrev pub FindsAt : Heading → List Event → Option (List Step) → Type 0
FindsAt heading log found = (h : List Event) (pe place value : ℕ) → reverse log ≡ Write pe place value ∷ h
    → IsRefused heading h pe place value → holds_leaf heading h place ≡ true → Finds heading h (Write pe place value) found

finds-by : (heading : Heading) (h : List Event) (e : Event) (log : List Event) (found : Option (List Step)) → ends_at_leaf heading (e ∷ h) ≡ true
    → EndsRefused heading h e log → FindsAt heading log found → Finds heading h e found
finds-by heading h (Write pe place value) log found leaf ends finds =
    let at = write-place heading h pe place value ends.at ends.refused in
    let refused = ends.refused ∙ ap (λ (n : ℕ). Some (record { rule = BreakBeforeMake; at = n })) (sym at) in
    finds h pe place value ends.is (record { kept = ends.kept; refused = refused }) leaf
finds-by heading h (Init pe page) log found leaf ends finds = absurd (false≢true leaf)
finds-by heading h (Null pe page) log found leaf ends finds = absurd (false≢true leaf)
finds-by heading h (Root pe kind lock page) log found leaf ends finds = absurd (false≢true leaf)
finds-by heading h (Unroot pe page) log found leaf ends finds = absurd (false≢true leaf)
finds-by heading h (Dsb pe dsb) log found leaf ends finds = absurd (false≢true leaf)
finds-by heading h (Dmb pe dsb) log found leaf ends finds = absurd (false≢true leaf)
finds-by heading h (Isb pe) log found leaf ends finds = absurd (false≢true leaf)
finds-by heading h (Tlbi pe op xt) log found leaf ends finds = absurd (false≢true leaf)
finds-by heading h (Msr pe reg value) log found leaf ends finds = absurd (false≢true leaf)
finds-by heading h (Lock pe lock) log found leaf ends finds = absurd (false≢true leaf)
finds-by heading h (Unlock pe lock) log found leaf ends finds = absurd (false≢true leaf)

pub ends-finds : (heading : Heading) (h : List Event) (e : Event) (log : List Event) (found : Option (List Step)) → ends_at_leaf heading (reverse log) ≡ true
    → EndsRefused heading h e log → FindsAt heading log found → Finds heading h e found
ends-finds heading h e log found leaf ends finds =
    finds-by heading h e log found (ap (ends_at_leaf heading) (sym ends.is) ∙ leaf) ends finds

-- the steps that are found fit the header
pub found-fits : (heading : Heading) (h : List Event) (e : Event) (log : List Event) (found : Option (List Step)) → ends_at_leaf heading (reverse log) ≡ true
    → EndsRefused heading h e log → FindsAt heading log found → IfSome found (All (Fits heading))
found-fits heading h e log None leaf ends finds = tt
found-fits heading h e log (Some steps) leaf ends finds =
    let P = λ (x : Event). fits_heading heading x ≡ true in
    let k = ends-finds heading h e log (Some steps) leaf ends finds in
    let fit = subst (All P) (sym (ap (reverse {A = Event}) (sym ends.is) ∙ reverse-reverse log)) (ends-fit heading h e log ends) in
    subst (All (Fits heading)) (sym k.2) (run-fits heading k.0 (reverse (e ∷ h)) fit)

-- ---- what is known where an event is refused

-- an event that break-before-make refuses
abbrev pub KnowsRefused : (Heading → List Event → Type 0) → Heading → List Event → Event → Type 0
KnowsRefused stands heading h e = Keeps stands heading h × (fits_heading heading e ≡ true)
    × ((at : ℕ) × (broken heading Patterns h e ≡ Some (record { rule = BreakBeforeMake; at = at })))

by-rule : (stands : Heading → List Event → Type 0) (heading : Heading) (h : List Event) (e : Event) (line : ℕ) (rule : Rule) (at : ℕ) (label : Option (List ℕ)) (refused : Option Event)
    → refused_by rule refused ≡ Some e → Keeps stands heading h → TellsEvent heading h (Refused line rule at label) refused → KnowsRefused stands heading h e
by-rule stands heading h e line BreakBeforeMake at label refused is keeps tells =
    let same : tells.0 ≡ e = cc in
    let fits = subst (λ (x : Event). fits_heading heading x ≡ true) same tells.2.fits in
    let breaks = subst (λ (x : Event). broken heading Patterns h x ≡ Some (record { rule = BreakBeforeMake; at = at })) same tells.2.breaks in
    (keeps, fits, (at, breaks))
by-rule stands heading h e line WrongWorld at label refused is keeps tells = cc
by-rule stands heading h e line NoLock at label refused is keeps tells = cc
by-rule stands heading h e line NullWritten at label refused is keeps tells = cc
by-rule stands heading h e line LimboMake at label refused is keeps tells = cc
by-rule stands heading h e line NotFresh at label refused is keeps tells = cc
by-rule stands heading h e line RewrittenFresh at label refused is keeps tells = cc
by-rule stands heading h e line BadKind at label refused is keeps tells = cc
by-rule stands heading h e line GlobalUser at label refused is keeps tells = cc
by-rule stands heading h e line PageInUse at label refused is keeps tells = cc
by-rule stands heading h e line NoRoot at label refused is keeps tells = cc
by-rule stands heading h e line TagConflict at label refused is keeps tells = cc
by-rule stands heading h e line RootInUse at label refused is keeps tells = cc
by-rule stands heading h e line UnsyncedVmid at label refused is keeps tells = cc
by-rule stands heading h e line BadOperand at label refused is keeps tells = cc
by-rule stands heading h e line LockBusy at label refused is keeps tells = cc
by-rule stands heading h e line LockNotMine at label refused is keeps tells = cc
by-rule stands heading h e line TableMapped at label refused is keeps tells = cc

pub knows-refused : (stands : Heading → List Event → Type 0) (heading : Heading) (h : List Event) (e : Event) (v : Verdict) (refused : Option Event)
    → refused_write refused v ≡ Some e → KnowsThat (Keeps stands heading h) v → TellsEvent heading h v refused → KnowsRefused stands heading h e
knows-refused stands heading h e (Accepted events) refused is keeps tells = cc
knows-refused stands heading h e (Refused line rule at label) refused is keeps tells = by-rule stands heading h e line rule at label refused is keeps tells
knows-refused stands heading h e (Malformed line cause) refused is keeps tells = cc
knows-refused stands heading h e (Limit line which) refused is keeps tells = cc

shows-by : (line : ℕ) (rule : Rule) (at : ℕ) (label : Option (List ℕ)) (e : Event) (refused : Option Event) → refused_by rule refused ≡ Some e
    → MayShowEvidence (Show Counterrun) (Refused line rule at label)
shows-by line BreakBeforeMake at label e refused is = tt
shows-by line WrongWorld at label e refused is = cc
shows-by line NoLock at label e refused is = cc
shows-by line NullWritten at label e refused is = cc
shows-by line LimboMake at label e refused is = cc
shows-by line NotFresh at label e refused is = cc
shows-by line RewrittenFresh at label e refused is = cc
shows-by line BadKind at label e refused is = cc
shows-by line GlobalUser at label e refused is = cc
shows-by line PageInUse at label e refused is = cc
shows-by line NoRoot at label e refused is = cc
shows-by line TagConflict at label e refused is = cc
shows-by line RootInUse at label e refused is = cc
shows-by line UnsyncedVmid at label e refused is = cc
shows-by line BadOperand at label e refused is = cc
shows-by line LockBusy at label e refused is = cc
shows-by line LockNotMine at label e refused is = cc
shows-by line TableMapped at label e refused is = cc

-- a run may be shown then
pub shows-run : (v : Verdict) (e : Event) (refused : Option Event) → refused_write refused v ≡ Some e → MayShowEvidence (Show Counterrun) v
shows-run (Accepted events) e refused is = cc
shows-run (Refused line rule at label) e refused is = shows-by line rule at label e refused is
shows-run (Malformed line cause) e refused is = cc
shows-run (Limit line which) e refused is = cc

-- the log with the event that is refused after it
pub ends-refused : (stands : Heading → List Event → Type 0) (heading : Heading) (h : List Event) (e : Event) (log all : List Event)
    → KnowsRefused stands heading h e → reverse log ≡ h → all ≡ log ++ e ∷ [] → EndsRefused heading h e all
ends-refused stands heading h e log all knows was is = record {
  is = ap (reverse {A = Event}) is ∙ reverse-append log (e ∷ []) ∙ ap (λ (es : List Event). e ∷ es) was;
  fit = and_from (fits_heading heading e) (all_fit heading h) knows.1 knows.0.fit;
  kept = knows.0.rules;
  at = knows.2.0;
  refused = knows.2.1;
}

-- ---- what is written

-- of an event whose place holds a leaf, or doesn't
pub by-leaf : (heading : Heading) (h : List Event) (e : Event) (v : Verdict) (log : List Event) (leaf : Bool) (result : Status) (old new : Option (List ℕ)) (f f' : ℕ)
    → leaf ≡ ends_at_leaf heading (reverse log) → EndsRefused heading h e log
    → ReportsText (RunAt leaf heading h e v) (status_of v) result old new f f'
    → ReportsText (λ text. RunOf heading h v text (Some e)) (status_of v) result old new f f'
by-leaf heading h e v log leaf result old new f f' is ends reports =
    subst (λ (b : Bool). ReportsText (RunAt b heading h e v) (status_of v) result old new f f') (is ∙ ap (ends_at_leaf heading) ends.is) reports

-- of an event that break-before-make refuses
pub reports-run : (heading : Heading) (h : List Event) (d : Decision) (e : Event) (result : Status) (old new : Option (List ℕ)) (f f' : ℕ)
    → refused_write d.refused d.verdict ≡ Some e
    → ReportsText (λ text. RunOf heading h d.verdict text (Some e)) (status_of d.verdict) result old new f f'
    → ReportsDecided (Show Counterrun) (Some heading) h d result old new f f'
reports-run heading h d e result old new f f' is (inl told) =
    inl (told.0, subst (λ (o : Option Event). RunOf heading h d.verdict told.0 o) (sym is) told.1, told.2)
reports-run heading h d e result old new f f' is (inr silent) = inr (shows-run d.verdict e d.refused is, silent)

-- the same of what holds the steps
some-mapped : {V : Type 0} (items : V → List Step) (P : List Step → Type 0) (found : Option V) → IfSome (option_map items found) P → IfSome found (λ v. P (items v))
some-mapped items P None fit = tt
some-mapped items P (Some v) fit = fit

pub found-fit : {V : Type 0} (items : V → List Step) (heading : Heading) (h : List Event) (e : Event) (log : List Event) (found : Option V) → ends_at_leaf heading (reverse log) ≡ true
    → EndsRefused heading h e log → FindsAt heading log (option_map items found) → IfSome found (λ v. All (Fits heading) (items v))
found-fit items heading h e log found leaf ends finds =
    some-mapped items (All (Fits heading)) found (found-fits heading h e log (option_map items found) leaf ends finds)

-- the run that is found was to be written
pub reports-found : {V : Type 0} (items : V → List Step) (heading : Heading) (h : List Event) (e : Event) (v : Verdict) (log : List Event) (found : Option V) (count : ℕ)
    (written : Result (Unit {0}) Failed) (wanted result : Status) (old new : Option (List ℕ)) (f f' : ℕ) → ends_at_leaf heading (reverse log) ≡ true → EndsRefused heading h e log → FindsAt heading log (option_map items found)
    → wanted ≡ status_of v → ((text : List ℕ) (o n : Option (List ℕ)) (k l : ℕ) → Puts text written o n k l → Wrote wanted text result o n k l)
    → Puts (found_steps heading count (option_map items found)) written old new f f' → count ≡ length log
    → ReportsText (RunAt true heading h e v) (status_of v) result old new f f'
reports-found items heading h e v log found count written wanted result old new f f' leaf ends finds status settles puts is =
    let steps = option_map items found in
    let many : count ≡ suc (length h) = is ∙ sym (length-reverse log) ∙ ap (length {A = Event}) ends.is in
    let wrote = settles (found_steps heading count steps) old new f f' puts in
    let told = subst (λ (s : Status). Wrote s (found_steps heading count steps) result old new f f') status wrote in
    inl (
      found_steps heading (suc (length h)) steps,
      (steps, ends-finds heading h e log steps leaf ends finds, refl),
      subst (λ (n : ℕ). Wrote (status_of v) (found_steps heading n steps) result old new f f') many told,
    )
