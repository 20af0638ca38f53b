-- What one more event does to a state that stands for a history.
use Rattle.bbm_rules.proofs.Common.{◌≡◌, ℕ, ◌<◌, Bool, true, false, cond, not, ◌&&◌, ◌==◌, nat_eq, List, ◌∷◌, Option}
use Rattle.bbm_rules.proofs.Common.{Some, None, is_some, is_none, option_and_then, refl, sym, ◌∙◌, ap, subst}
use Rattle.bbm_rules.proofs.Common.{true≢false, and_parts, eq-eqb, eqb-true, false_from_ne_true, answers, core_of}
use Rattle.bbm_rules.proofs.Common.{is_valid, Core, every_pe, every_same, every_wider, Kind, Cover, Patterns, cleansed}
use Rattle.bbm_rules.proofs.Common.{writes, note, noted, ValidWrite, cleansed_everywhere, held, last_valid}
use Rattle.bbm_rules.proofs.Common.{last_valid_after, later, Noted, events_of, value_of, arith, ◌||◌, or_left, or_right}
use Rattle.bbm_rules.proofs.Common.{page_of}
use Rattle.bbm_rules.specs.Held.{emptied}
use Rattle.std.proofs.Math.Bool.{and-false, and-true}
use Rattle.bbm_barriers.specs.declared.Dsb.{Dsb as Barrier}
use Rattle.bbm_lemmas.proofs.Every.{every_none}
use Rattle.bbm_lemmas.proofs.Words.{none_is, some_is}
use Rattle.bbm_entry_state.specs.EntryCalls.{Completed, Written, clean_after, core_after}
use Rattle.bbm_entry_state.specs.Points.{core_in, is_broken, waits as waits_at, writer_at}
use Rattle.bbm_entry_state.specs.EntryStanding.{IsIdle, KeepsPends}
use Rattle.bbm_entry_state.specs.declared.pending.Pends.{Pends}
use Rattle.bbm_entry_state.specs.declared.state.EntryState.{EntryState}
use Rattle.std.proofs.lemmas.Bool.{true_from_ne_false}
use Rattle.bbm_rules.proofs.HeldLemmas.{holding, older}
use Rattle.bbm_events.specs.Heading.{Heading}
use Rattle.bbm_events.specs.declared.event.Event.{Event}
use Rattle.bbm_events.specs.declared.event.Event.TheVariants.{Init, Write, Dsb}
use Rattle.bbm_histories.specs.HistorySteps.{held_after, wrote}
use Rattle.bbm_replay_entries.specs.EntryEvents.{Heard, OthersStay, touches}
use Rattle.bbm_replay_entries.specs.KnownOfEntries.{Known}
use Rattle.bbm_replay_entries.specs.Marked.{Marked}
use Rattle.bbm_replay_entries.specs.EntryStands.{ByValue, EntryStands, core_now, held_now}
use Rattle.bbm_replay_entries.proofs.Marks.{Middle, both_written, clean_now, is_still, marked_blank, marked_dsb}
use Rattle.bbm_replay_entries.proofs.Marks.{marked_still, middle}
use Rattle.bbm_replay_entries.proofs.Since.{cleansed_on, unwritten}

unclean : (mid : EntryState) (pends : Pends) (dsb : Barrier) → is_broken mid ≡ false → (p : ℕ) → clean_after mid pends dsb p ≡ false
unclean mid pends dsb t p = grind arith

module _ (heading : Heading) (k : Known heading) (kind : Kind) (level place : ℕ) where
  -- ---- what is held, by the value

  valid_held : (h : List Event) → 0 < heading.pes → is_valid kind level (value_of h place) ≡ true → held_now heading h kind level place ≡ Some (value_of h place)
  valid_held h pes v =
      subst (λ (x : List Event). is_valid kind level (value_of x place) ≡ true → held_now heading h kind level place ≡ Some (value_of x place))
      (k.notes_keep_the_events h) (k.held.live kind level place (noted heading Patterns h) pes) v

  -- a valid value was written last
  valid_unwritten : (h : List Event) (w : ValidWrite) → is_valid kind level (value_of h place) ≡ true
      → last_valid kind level place (noted heading Patterns h) ≡ Some w → (p q : ℕ) → wrote heading place p q w.since ≡ false
  valid_unwritten h w v last p q =
      let same : events_of (noted heading Patterns h) ≡ h = k.notes_keep_the_events h in
      let live = k.last_valid.live kind level place (noted heading Patterns h)
      (ap (λ (x : List Event). is_valid kind level (value_of x place)) same ∙ v) in
      let one : live.0 ≡ w = cc (live.1, last) in
      ap (λ (x : ValidWrite). wrote heading place p q x.since) (sym one) ∙ unwritten heading place p live.0.since live.3 q

  core_valid : (value : ℕ) → is_valid kind level value ≡ true → is_some (core_of kind level value) ≡ true
  core_valid value v = k.core_where_valid kind level value ∙ v

  core_invalid : (value : ℕ) → is_valid kind level value ≡ false → core_of kind level value ≡ None
  core_invalid value v = none_is (core_of kind level value) (k.core_where_valid kind level value ∙ v)

  core_held : (h : List Event) → is_some (held_now heading h kind level place) ≡ is_some (core_now heading h kind level place)
  core_held h = by (held_now heading h kind level place) refl
    where
      by : (o : Option ℕ) → held_now heading h kind level place ≡ o → is_some o ≡ is_some (option_and_then (core_of kind level) o)
      by None e = refl
      by (Some x) e = sym (core_valid x (k.held.valid kind level place (noted heading Patterns h) x e))

  -- the state has a core where something is held
  pub holds_core : (h : List Event) (state : EntryState) (pends : ℕ → Pends) → EntryStands heading h kind level place state pends
      → is_some (held_now heading h kind level place) ≡ is_some (core_in state)
  holds_core h state pends s = cc (core_held h, s.core)

  -- ---- a place that comes into a tree

  pub value_stands : (h : List Event) (state : EntryState) (pends : ℕ → Pends)
      → held_now heading h kind level place ≡ cond (is_valid kind level (value_of h place)) (Some (value_of h place)) None
      → ByValue kind level (value_of h place) state pends → EntryStands heading h kind level place state pends
  value_stands h state pends holds b = record {
    core = (by (is_valid kind level (value_of h place)) refl).0;
    broken = (by (is_valid kind level (value_of h place)) refl).1;
    marks = λ broken. absurd (true≢false (sym broken ∙ b.unbroken));
    idle = λ unbroken. b.idle;
  }
    where
      by : (t : Bool) → is_valid kind level (value_of h place) ≡ t → (core_in state ≡ core_now heading h kind level place)
          × (is_broken state ≡ (is_some (held_now heading h kind level place) && not (is_valid kind level (value_of h place))))
      by true t = (cc (b.core, holds, t), cc (b.unbroken, t, and-false (is_some (held_now heading h kind level place))))
      by false t = (cc (b.core, holds, t, core_invalid (value_of h place) t), cc (b.unbroken, holds, t))

  pub fresh_holds : (h : List Event) → 0 < heading.pes
      → ((value : ℕ) → held_now heading h kind level place ≡ Some value → value_of h place ≡ value)
      → held_now heading h kind level place ≡ cond (is_valid kind level (value_of h place)) (Some (value_of h place)) None
  fresh_holds h pes present = by (is_valid kind level (value_of h place)) refl
    where
      by : (t : Bool) → is_valid kind level (value_of h place) ≡ t
          → held_now heading h kind level place ≡ cond (is_valid kind level (value_of h place)) (Some (value_of h place)) None
      by true t = cc (valid_held h pes t, t)
      by false t = none_is (held_now heading h kind level place) (false_from_ne_true (is_some (held_now heading h kind level place)) (λ some.
          let x : (value : ℕ) × (held_now heading h kind level place ≡ Some value) = some_is (held_now heading h kind level place) some in
          absurd (cc (k.held.valid kind level place (noted heading Patterns h) x.0 x.1, present x.0 x.1, t)))) ∙ sym (cc t)

  -- ---- the last valid write after an event that isn't one

  last_later : (h : List Event) (e : Event) (w : ValidWrite) (P : List Noted → Type 0)
      → last_valid kind level place (noted heading Patterns (e ∷ h)) ≡ later (note heading Patterns (noted heading Patterns h) e) (last_valid kind level place (noted heading Patterns h))
      → ((old : ValidWrite) → last_valid kind level place (noted heading Patterns h) ≡ Some old
      → P (note heading Patterns (noted heading Patterns h) e ∷ old.since))
      → last_valid kind level place (noted heading Patterns (e ∷ h)) ≡ Some w → P w.since
  last_later h e w P on each last =
      let o = older (note heading Patterns (noted heading Patterns h) e) (last_valid kind level place (noted heading Patterns h)) w
      (sym on ∙ last) in
      subst P o.longer (each o.before o.is)

  -- ---- an event that doesn't touch the place

  last_on : (e : Event) (n : Noted) (found : Option ValidWrite) → touches place e ≡ false → last_valid_after kind level place e n found ≡ later n found
  last_on e n found t = grind arith

  value_on : (e : Event) (h : List Event) → touches place e ≡ false → value_of (e ∷ h) place ≡ value_of h place
  value_on e h t = grind arith

  held_on : (e : Event) (n : Noted) (h : List Noted) → touches place e ≡ false
      → held_after heading Patterns kind level place e n h ≡ held heading Patterns kind level place h
  held_on e n h t = grind arith

  still_on : (e : Event) → touches place e ≡ false → is_still e ≡ true
  still_on e t = grind arith

  unwritten_on : (p : ℕ) (e : Event) → touches place e ≡ false → writes p place e ≡ false
  unwritten_on p (Write pe at value) t = cc (t, and-false (pe == p))
  unwritten_on p e t = refl

  -- what a place holds and its value are as they were
  pub alike_stands : (h : List Event) (e : Event) (state : EntryState) (pends pends' : ℕ → Pends) → 0 < heading.pes
      → held_after heading Patterns kind level place e (note heading Patterns (noted heading Patterns h) e) (noted heading Patterns h) ≡ held_now heading h kind level place
      → value_of (e ∷ h) place ≡ value_of h place
      → last_valid kind level place (noted heading Patterns (e ∷ h))
      ≡ later (note heading Patterns (noted heading Patterns h) e) (last_valid kind level place (noted heading Patterns h))
      → EntryStands heading h kind level place state pends
      → (is_broken state ≡ true → (since : List Noted) → Marked heading place since state pends
      → Marked heading place (note heading Patterns (noted heading Patterns h) e ∷ since) state pends')
      → (is_broken state ≡ false → (q : ℕ) → IsIdle (pends' q))
      → EntryStands heading (e ∷ h) kind level place state pends'
  alike_stands h e state pends pends' pes holds value later_is s marks idle =
      let held : held_now heading (e ∷ h) kind level place ≡ held_now heading h kind level place
      = k.held_step kind level place (note heading Patterns (noted heading Patterns h) e) (noted heading Patterns h) pes ∙ holds in
      record {
        core = cc (s.core, held);
        broken = cc (s.broken, held, value);
        marks = λ broken w last. last_later h e w (λ since. Marked heading place since state pends') later_is
            (λ y was. marks broken y.since (s.marks broken y was)) last;
        idle = idle;
      }

  pub stays : (h : List Event) (e : Event) (state : EntryState) (pends : ℕ → Pends) → 0 < heading.pes → touches place e ≡ false
      → EntryStands heading h kind level place state pends → EntryStands heading (e ∷ h) kind level place state pends
  stays h e state pends pes t s =
      alike_stands h e state pends pends pes (held_on e n (noted heading Patterns h) t) (value_on e h t)
      (last_on e n (last_valid kind level place (noted heading Patterns h)) t) s
      (λ broken since m. marked_still heading k place n since state state pends pends (still_on e t) m
      (λ p. cc (unwritten_on p e t)) (λ p. refl) (λ p. refl) (λ p. refl) (λ q b c p. refl))
      s.idle
    where
      n : Noted
      n = note heading Patterns (noted heading Patterns h) e

  -- ---- a write

  unbroken_held : (h : List Event) (state : EntryState) (pends : ℕ → Pends) → EntryStands heading h kind level place state pends → is_broken state ≡ false
      → is_some (held_now heading h kind level place) ≡ true → is_valid kind level (value_of h place) ≡ true
  unbroken_held h state pends s unbroken some =
      true_from_ne_false (is_valid kind level (value_of h place)) (λ t. absurd (cc (s.broken, some, t, unbroken)))

  -- the masks of a place that holds something, broken or not
  held_marks : (h : List Event) (state : EntryState) (pends : ℕ → Pends) (w : ValidWrite) → EntryStands heading h kind level place state pends
      → is_some (held_now heading h kind level place) ≡ true → last_valid kind level place (noted heading Patterns h) ≡ Some w
      → Marked heading place w.since state pends
  held_marks h state pends w s some last = by (is_broken state) refl
    where
      by : (t : Bool) → is_broken state ≡ t → Marked heading place w.since state pends
      by true t = s.marks t w last
      by false t = marked_blank heading k place w.since state pends t (s.idle t) (valid_unwritten h w (unbroken_held h state pends s t some) last)

  here : (place == place) ≡ true
  here = eq-eqb place place refl

  pub write_stands : (h : List Event) (pe value : ℕ) (old new : EntryState) (pends pends' : ℕ → Pends) → 0 < heading.pes
      → Written old pe (core_of kind level value) new → KeepsPends new pends pends'
      → EntryStands heading h kind level place old pends → EntryStands heading (Write pe place value ∷ h) kind level place new pends'
  write_stands h pe value old new pends pends' pes w keeps s = by (is_valid kind level value) refl
    where
      e : Event
      e = Write pe place value

      n : Noted
      n = note heading Patterns (noted heading Patterns h) e

      holds : (t : Bool) → is_valid kind level value ≡ t → held_now heading (e ∷ h) kind level place
          ≡ cond t (Some value) (held_now heading h kind level place)
      holds t v = cc (k.held_step kind level place n (noted heading Patterns h) pes, here, v)

      present : value_of (e ∷ h) place ≡ value
      present = cc here

      idle : is_broken new ≡ false → (q : ℕ) → IsIdle (pends' q)
      idle t q b c p = cc (keeps q b c p, t)

      last : is_valid kind level value ≡ false → last_valid kind level place (noted heading Patterns (e ∷ h))
          ≡ later n (last_valid kind level place (noted heading Patterns h))
      last v = cc (v, and-false (place == place))

      by : (t : Bool) → is_valid kind level value ≡ t → EntryStands heading (e ∷ h) kind level place new pends'
      by true v =
          let has : (core : Core) × (core_of kind level value ≡ Some core) = some_is (core_of kind level value) (core_valid value v) in
          let unbroken : is_broken new ≡ false = w.broken ∙ ap (λ (o : Option Core). is_none o && is_some (core_in old)) has.1 in
          let core : core_in new ≡ core_of kind level value
          = w.core ∙ (ap (λ (o : Option Core). core_after o (core_in old)) has.1 ∙ sym has.1) in
          record {
            core = cc (core, holds true v);
            broken = cc (unbroken, present, v, and-false (is_some (held_now heading (e ∷ h) kind level place)));
            marks = λ broken. absurd (true≢false (sym broken ∙ unbroken));
            idle = idle;
          }
      by false v =
          let none : core_of kind level value ≡ None = core_invalid value v in
          let same : core_in new ≡ core_in old = w.core ∙ ap (λ (o : Option Core). core_after o (core_in old)) none in
          let breaks : is_broken new ≡ is_some (core_in old) = w.broken ∙ ap (λ (o : Option Core). is_none o && is_some (core_in old)) none in
          let some : is_some (held_now heading h kind level place) ≡ is_some (core_in old) = holds_core h old pends s in
          record {
            core = cc (same, s.core, holds false v);
            broken = cc (breaks, some, holds false v, present, v, and-true (is_some (held_now heading h kind level place)));
            marks = λ broken x is. last_later h e x (λ since. Marked heading place since new pends') (last v)
                (λ y was. marked_still heading k place n y.since old new pends pends' refl
                (held_marks h old pends y s (some ∙ (sym breaks ∙ broken)) was)
                (λ p. cc (w.writers p, broken, both_written p pe place (writer_at old p)))
                (λ p. cc (w.seen p, none)) (λ p. cc (w.half p, none)) (λ p. cc (w.clean p, none))
                (λ q b c p. cc (keeps q b c p, broken))) is;
            idle = idle;
          }

  -- the core of an unbroken place is that of its value
  pub present_core : (h : List Event) (state : EntryState) (pends : ℕ → Pends) → 0 < heading.pes
      → EntryStands heading h kind level place state pends → is_broken state ≡ false → core_in state ≡ core_of kind level (value_of h place)
  present_core h state pends pes s unbroken = s.core ∙ by (is_valid kind level (value_of h place)) refl
    where
      by : (t : Bool) → is_valid kind level (value_of h place) ≡ t → core_now heading h kind level place ≡ core_of kind level (value_of h place)
      by true t = cc (valid_held h pes t)
      by false t =
          let none = none_is (held_now heading h kind level place) (false_from_ne_true (is_some (held_now heading h kind level place))
          (λ some. true≢false (sym (unbroken_held h state pends s unbroken some) ∙ t))) in
          cc (core_invalid (value_of h place) t, none)

  -- ---- a DSB

  -- nothing is held after it where nothing was held before
  none_after : (n : Noted) (gone gone' : Bool) → (gone ≡ true → gone' ≡ true) → (o : Option ValidWrite)
      → option_and_then (λ (w : ValidWrite). cond (gone || cleansed_everywhere heading Patterns place w.since) None (Some w.value)) o ≡ None
      → option_and_then (λ (w : ValidWrite). cond (gone' || cleansed_everywhere heading Patterns place (n ∷ w.since)) None (Some w.value)) o ≡ None
  none_after n gone gone' still None e = refl
  none_after n gone gone' still (Some w) e = by (cleansed_everywhere heading Patterns place w.since) refl gone refl e
    where
      by : (t : Bool) → cleansed_everywhere heading Patterns place w.since ≡ t → (d : Bool) → gone ≡ d
          → cond (d || t) None (Some w.value) ≡ None
          → cond (gone' || cleansed_everywhere heading Patterns place (n ∷ w.since)) None (Some w.value) ≡ None
      by true t d g e =
          ap (λ (c : Bool). cond c None (Some w.value))
          (or_right gone' (cleansed_everywhere heading Patterns place (n ∷ w.since)) (every_wider heading.pes (λ p. cleansed heading Patterns place p w.since) (λ p. cleansed heading Patterns place p (n ∷ w.since))
          (λ p c. cleansed_on heading k place p n w.since c) t))
      by false t true g e =
          ap (λ (c : Bool). cond c None (Some w.value))
          (or_left gone' (cleansed_everywhere heading Patterns place (n ∷ w.since)) (still g))
      by false t false g e = cc

  whole_held : (h : List Event) (q : ℕ) (dsb : Barrier) (state : EntryState) (pends : ℕ → Pends) → 0 < heading.pes → is_broken state ≡ false
      → EntryStands heading h kind level place state pends → held_now heading (Dsb q dsb ∷ h) kind level place ≡ held_now heading h kind level place
  whole_held h q dsb state pends pes unbroken s = by (is_some (held_now heading h kind level place)) refl
    where
      still : emptied heading Patterns kind level place (noted heading Patterns h) ≡ true
          → emptied heading Patterns kind level place (noted heading Patterns (Dsb q dsb ∷ h)) ≡ true
      still gone = k.held.emptied_stays kind level place (note heading Patterns (noted heading Patterns h) (Dsb q dsb)) (noted heading Patterns h)
          (λ p v is. let apart : Dsb q dsb ≡ Write p place v = is in cc)
          (λ p is. let apart : Dsb q dsb ≡ Init p (page_of place) = is in cc) gone

      by : (t : Bool) → is_some (held_now heading h kind level place) ≡ t
          → held_now heading (Dsb q dsb ∷ h) kind level place ≡ held_now heading h kind level place
      by true t =
          let v : is_valid kind level (value_of h place) ≡ true = unbroken_held h state pends s unbroken t in
          valid_held (Dsb q dsb ∷ h) pes v ∙ sym (valid_held h pes v)
      by false t =
          let none : held_now heading h kind level place ≡ None = none_is (held_now heading h kind level place) t in
          k.held_step kind level place (note heading Patterns (noted heading Patterns h) (Dsb q dsb)) (noted heading Patterns h) pes
          ∙ (none_after (note heading Patterns (noted heading Patterns h) (Dsb q dsb))
          (emptied heading Patterns kind level place (noted heading Patterns h))
          (emptied heading Patterns kind level place (noted heading Patterns (Dsb q dsb ∷ h))) still
          (last_valid kind level place (noted heading Patterns h)) none ∙ sym none)

  -- where it is emptied nothing is held, and a clean state stands for it
  pub empties_stands : (h : List Event) (state : EntryState) (pends : ℕ → Pends)
      → emptied heading Patterns kind level place (noted heading Patterns h) ≡ true → core_in state ≡ None
      → is_broken state ≡ false → ((i : ℕ) → IsIdle (pends i)) → EntryStands heading h kind level place state pends
  empties_stands h state pends gone core unbroken idle =
      let none : held_now heading h kind level place ≡ None = nothing (last_valid kind level place (noted heading Patterns h)) in
      record {
        core = core ∙ sym (ap (option_and_then (core_of kind level)) none);
        broken = unbroken ∙ sym (ap (λ (o : Option ℕ). is_some o && not (is_valid kind level (value_of h place))) none);
        marks = λ broken. absurd (true≢false (sym broken ∙ unbroken));
        idle = λ t. idle;
      }
    where
      nothing : (o : Option ValidWrite) → option_and_then (λ (w : ValidWrite). cond (emptied heading Patterns kind level place (noted heading Patterns h)
          || cleansed_everywhere heading Patterns place w.since) None (Some w.value)) o ≡ None
      nothing None = refl
      nothing (Some w) = ap (λ (c : Bool). cond c None (Some w.value))
          (or_left (emptied heading Patterns kind level place (noted heading Patterns h)) (cleansed_everywhere heading Patterns place w.since) gone)

  pub whole_stands : (h : List Event) (q : ℕ) (dsb : Barrier) (old new : EntryState) (pends pends' : ℕ → Pends) → 0 < heading.pes → is_broken old ≡ false
      → core_in new ≡ core_in old → is_broken new ≡ false → ((i : ℕ) → IsIdle (pends' i))
      → EntryStands heading h kind level place old pends → EntryStands heading (Dsb q dsb ∷ h) kind level place new pends'
  whole_stands h q dsb old new pends pends' pes whole core unbroken idle s =
      let same : held_now heading (Dsb q dsb ∷ h) kind level place ≡ held_now heading h kind level place
      = whole_held h q dsb old pends pes whole s in
      record {
        core = cc (core, s.core, same);
        broken = cc (unbroken, whole, s.broken, same);
        marks = λ broken. absurd (true≢false (sym broken ∙ unbroken));
        idle = λ t. idle;
      }

  unfinished : (dsb : Barrier) (mid : EntryState) (pends : Pends) → 0 < heading.pes → is_broken mid ≡ false
      → every_pe heading.pes (clean_after mid pends dsb) ≡ false
  unfinished dsb mid pends pes unbroken =
      every_none heading.pes (clean_after mid pends dsb) pes (λ p. unclean mid pends dsb unbroken p)

  -- what a broken place holds
  broken_held : (h : List Event) (state : EntryState) (pends : ℕ → Pends) → EntryStands heading h kind level place state pends → is_broken state ≡ true
      → (w : ValidWrite) × (last_valid kind level place (noted heading Patterns h) ≡ Some w) × (held_now heading h kind level place ≡ Some w.value)
  broken_held h state pends s broken =
      let some : is_some (held_now heading h kind level place) ≡ true
      = (and_parts (is_some (held_now heading h kind level place)) (not (is_valid kind level (value_of h place))) (sym s.broken ∙ broken)).0 in
      let x : (value : ℕ) × (held_now heading h kind level place ≡ Some value) = some_is (held_now heading h kind level place) some in
      let o = holding heading Patterns place (emptied heading Patterns kind level place (noted heading Patterns h)) (last_valid kind level place (noted heading Patterns h)) x.0 x.1 in
      (o.write, o.is, x.1 ∙ ap Some (sym o.same))

  cond_core : (t : Bool) (v : ℕ) → option_and_then (core_of kind level) (cond t None (Some v)) ≡ cond t None (core_of kind level v)
  cond_core t v = grind arith

  pub dsb_stands : (h : List Event) (q : ℕ) (dsb : Barrier) (old mid new : EntryState) (pends pends' : ℕ → Pends) → 0 < heading.pes
      → Heard heading old q dsb mid → Completed mid (pends q) dsb heading.pes new (pends' q) → OthersStay new q pends pends'
      → emptied heading Patterns kind level place (noted heading Patterns (Dsb q dsb ∷ h)) ≡ false
      → EntryStands heading h kind level place old pends → EntryStands heading (Dsb q dsb ∷ h) kind level place new pends'
  dsb_stands h q dsb old mid new pends pends' pes heard d others unemptied s = by (is_broken old) refl
    where
      e : Event
      e = Dsb q dsb

      n : Noted
      n = note heading Patterns (noted heading Patterns h) e

      mids : Middle heading old q dsb mid
      mids = middle heading old q dsb mid heard

      quiet : is_broken new ≡ false → ((b : Bool) (c : Cover) (p : ℕ) → waits_at (pends' q) b c p ≡ false) → (i : ℕ) → IsIdle (pends' i)
      quiet unbroken own i b c p = one (nat_eq i q) refl
        where
          one : (t : Bool) → nat_eq i q ≡ t → waits_at (pends' i) b c p ≡ false
          one true t = cc (eqb-true i q t, own b c p)
          one false t = cc (others i t b c p, unbroken)

      by : (t : Bool) → is_broken old ≡ t → EntryStands heading (e ∷ h) kind level place new pends'
      by false t =
          let mid_whole : is_broken mid ≡ false = mids.broken ∙ t in
          let unbroken : is_broken new ≡ false
          = cc (d.broken, mid_whole, and-false (is_some (core_in new))) in
          whole_stands h q dsb old new pends pends' pes t
          (cc (d.core, unfinished dsb mid (pends q) pes mid_whole, mids.core)) unbroken
          (quiet unbroken (λ b c p. cc (
            d.waiting b c p,
            s.idle t q b c p,
            and-false (not (answers dsb b)),
            and-false (is_some (core_in new)),
          ))) s
      by true t =
          let has : (w : ValidWrite) × (last_valid kind level place (noted heading Patterns h) ≡ Some w) × (held_now heading h kind level place ≡ Some w.value)
          = broken_held h old pends s t in
          let w : ValidWrite = has.0 in
          let all : every_pe heading.pes (clean_after mid (pends q) dsb) ≡ cleansed_everywhere heading Patterns place (n ∷ w.since)
          = every_same heading.pes (clean_after mid (pends q) dsb) (λ p. cleansed heading Patterns place p (n ∷ w.since))
          (clean_now heading k place n w.since q dsb refl old mid pends mids (s.marks t w has.1)) in
          let holds : held_now heading (e ∷ h) kind level place ≡ cond (cleansed_everywhere heading Patterns place (n ∷ w.since)) None (Some w.value)
          = ap (option_and_then (λ (x : ValidWrite). cond (emptied heading Patterns kind level place (noted heading Patterns (e ∷ h))
          || cleansed_everywhere heading Patterns place x.since) None (Some x.value))) (ap (later n) has.1)
          ∙ ap (λ (b : Bool). cond b None (Some w.value))
          (ap (λ (g : Bool). g || cleansed_everywhere heading Patterns place (n ∷ w.since)) unemptied) in
          let core : core_in new ≡ core_now heading (e ∷ h) kind level place
          = d.core ∙ (ap (λ (b : Bool). cond b None (core_in mid)) all
          ∙ (ap (λ (o : Option Core). cond (cleansed_everywhere heading Patterns place (n ∷ w.since)) None o)
          (mids.core ∙ (s.core ∙ ap (option_and_then (core_of kind level)) has.2))
          ∙ (sym (cond_core (cleansed_everywhere heading Patterns place (n ∷ w.since)) w.value)
          ∙ sym (ap (option_and_then (core_of kind level)) holds)))) in
          let invalid : not (is_valid kind level (value_of h place)) ≡ true
          = (and_parts (is_some (held_now heading h kind level place)) (not (is_valid kind level (value_of h place))) (sym s.broken ∙ t)).1 in
          let breaks : is_broken new ≡ is_some (core_in new)
          = cc (d.broken, mids.broken, t, and-true (is_some (core_in new))) in
          record {
            core = core;
            broken = cc (breaks, core, core_held (e ∷ h), invalid, and-true (is_some (held_now heading (e ∷ h) kind level place)));
            marks = λ broken x is. last_later h e x (λ since. Marked heading place since new pends') refl
                (λ y was. marked_dsb heading k place n y.since q dsb refl old mid pends mids (s.marks t y was) new pends' broken d others) is;
            idle = λ unbroken. quiet unbroken (λ b c p. cc (d.waiting b c p, breaks, unbroken));
          }
