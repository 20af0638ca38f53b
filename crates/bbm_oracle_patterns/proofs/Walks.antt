-- A walk after one more event.
use Rattle.bbm_rules.proofs.Common.{◌≡◌, ℕ, suc, subst, reverse, ◌+◌, length, Bool, true, false, ◌&&◌, ◌||◌, not}
use Rattle.bbm_rules.proofs.Common.{nat_eq, ◌==◌, List, [], ◌∷◌, refl, sym, ◌∙◌, ap, false≢true, or_parts, and_right}
use Rattle.bbm_rules.proofs.Common.{not-true, proved, If, Is, answers, PeMask, Cover, Half, Second, Full, operation}
use Rattle.bbm_rules.proofs.Common.{answers_one, publishes_write, same_cover, writes, some, Noted, Barrier, Event}
use Rattle.bbm_rules.proofs.Common.{Heading, Dsb, Tlbi, Write, Issued, unanswered, publishes_to, same_flag, and-true}
use Rattle.bbm_rules.proofs.Common.{and-false, or_middle}
use Rattle.bbm_regimes.specs.PeMask.{pe_in}
use Rattle.bbm_tlbi_scope.specs.declared.op.TlbiOp.{TlbiOp}
use Rattle.bbm_rules.specs.Cleansing as spec
use Rattle.bbm_rules.specs.Claims.{Patterns}
use Rattle.bbm_rules.specs.Notes.{event_of}
use Rattle.bbm_rules.specs.Reach.{still_open}
use Rattle.bbm_oracle_patterns.specs.Relation.{is_open, related}
use Rattle.bbm_oracle_patterns.specs.Walk.{IsOpen, IsWalk, Traces, full_test, half_test, second_test, is_idle}
use Rattle.bbm_oracle_patterns.specs.Walk.{is_write_of, noted_for, some_writes, writes_place}
use Rattle.bbm_oracle_patterns.specs.Kept.{cover_in, listed, note_of, notes_behind, notes_for}
use Rattle.bbm_oracle_patterns.specs.declared.kept.Covering.{Covering}
use Rattle.bbm_oracle_patterns.specs.declared.kept.Covering.TheVariants.{Whole, Top}
use Rattle.bbm_oracle_patterns.specs.declared.kept.Kept.{Kept}
use Rattle.bbm_oracle_patterns.specs.declared.open.Open.{Open}
use Rattle.bbm_oracle_patterns.specs.declared.trace.Trace.{Trace}
use Rattle.bbm_oracle_patterns.specs.declared.walk.Walk.{Walk}
use Rattle.bbm_oracle_patterns.proofs.Opens.{answered_by, after_dsb, after_tlbi}
use Rattle.bbm_lemmas.proofs.Bools.{is_none_of_two}
use Rattle.bbm_lemmas.proofs.Tests.{any_reverse}

-- ---- tests

shuffle : (r k s : Bool) → (k && (r && s)) ≡ (r && k && s)
shuffle = proved 3 (λ r k s. Is (k && (r && s)) (r && k && s)) refl

last_false : (r k s : Bool) → s ≡ false → (r && k && s) ≡ false
last_false = proved 3 (λ r k s. If (Is s false) (Is (r && k && s) false)) refl

no_more : (a k f : Bool) → a ≡ (a || (k && (f && false)))
no_more = proved 3 (λ a k f. Is a (a || (k && (f && false)))) refl

-- ---- an event that changes nothing

unwritten : (q place : ℕ) (e : Event) → is_idle e place ≡ true → writes q place e ≡ false
unwritten q place (Write pe at value) k = and_right (pe == q) (at == place) (not-true (at == place) k)
unwritten q place _ k = refl

unpublished : (heading : Heading) (place p : ℕ) (e : Event) (older : List Noted) → is_idle e place ≡ true
    → publishes_write heading place p e older ≡ false
unpublished heading place p (Dsb pe dsb) older k = absurd (false≢true k)
unpublished heading place p _ older k = refl

unanswering : (test : Issued Noted → Bool) (place : ℕ) (e : Event) (older : List Noted) → is_idle e place ≡ true
    → answers_one test e older ≡ false
unanswering test place (Dsb pe dsb) older k = absurd (false≢true k)
unanswering test place _ older k = refl

untouched : (q place : ℕ) (e : Event) (issued : Issued Noted) (ts : List (Issued Noted)) → is_idle e place ≡ true
    → still_open event_of q e issued ts ≡ ts
untouched q place (Dsb pe dsb) issued ts k = absurd (false≢true k)
untouched q place (Tlbi pe op xt) issued ts k = absurd (false≢true k)
untouched q place _ issued ts k = refl

open_idle : (o : Open) (test : ℕ → Issued Noted → Bool) (place : ℕ) (n : Noted) (since : List Noted)
    → is_idle n.event place ≡ true → IsOpen o test since → IsOpen o test (n ∷ since)
open_idle o test place n since k x = record {
  by = λ q b p.
      rw (untouched q place n.event (record { tlbi = n; before = since }) (unanswered event_of q since) k) (x.by q b p);
}

pub walk_idle : (w : Walk) (heading : Heading) (place : ℕ) (n : Noted) (since : List Noted)
    → is_idle n.event place ≡ true → IsWalk w heading place since → IsWalk w heading place (n ∷ since)
walk_idle w heading place n since k x = record {
  writers = λ q. rw (unwritten q place n.event k) (x.writers q);
  seen_at = λ p. rw (unpublished heading place p n.event since k) (x.seen_at p);
  half_at = λ p. rw (unanswering (half_test heading place p) place n.event since k) (x.half_at p);
  cleansed_at = λ p. rw (
    unanswering (full_test heading place p) place n.event since k,
    unanswering
        (second_test heading place p) place n.event since k,
  ) (x.cleansed_at p);
  full_open = open_idle w.full (full_test heading place) place n since k x.full_open;
  half_open = open_idle w.half (half_test heading place) place n since k x.half_open;
  second_open = open_idle w.second (second_test heading place) place n since k x.second_open;
}

-- ---- a write, a DSB, a TLBI

module _ (w : Walk) (heading : Heading) (place : ℕ) (since : List Noted) (x : IsWalk w heading place since)
    (covers tops : ℕ → Cover) (position pe : ℕ) where
  pub walk_dsb : (dsb : Barrier) (t : Trace) (full half second : Open) →
      ((p : ℕ) → pe_in t.seen p ≡ ((publishes_to heading dsb pe p && pe_in w.writers pe) || pe_in w.trace.seen p)) →
      ((p : ℕ) → pe_in t.half p ≡ (((answers dsb true && is_open w.half pe true p)
      || (answers dsb false && is_open w.half pe false p)) || pe_in w.trace.half p)) →
      ((p : ℕ) → pe_in t.cleansed p
      ≡ ((((answers dsb true && is_open w.full pe true p) || (answers dsb false && is_open w.full pe false p))
      || ((answers dsb true && is_open w.second pe true p) || (answers dsb false && is_open w.second pe false p)))
      || pe_in w.trace.cleansed p)) →
      ((q : ℕ) (b : Bool) (p : ℕ) → is_open full q b p ≡ (is_open w.full q b p && not (nat_eq pe q && answers dsb b))) →
      ((q : ℕ) (b : Bool) (p : ℕ) → is_open half q b p ≡ (is_open w.half q b p && not (nat_eq pe q && answers dsb b))) →
      ((q : ℕ) (b : Bool) (p : ℕ) → is_open second q b p
      ≡ (is_open w.second q b p && not (nat_eq pe q && answers dsb b))) →
      IsWalk (record { writers = w.writers; trace = t; full = full; half = half; second = second }) heading place
      (record { event = Dsb pe dsb; covers = covers; tops = tops; position = position } ∷ since)
  walk_dsb dsb t full half second seen_is half_is cleansed_is full_is half_left second_is = record {
    writers = x.writers;
    seen_at = λ p.
        seen_is p
        ∙ ap (λ (b : Bool). (publishes_to heading dsb pe p && b) || pe_in w.trace.seen p) (x.writers pe)
        ∙ ap (λ (b : Bool). (publishes_to heading dsb pe p && some (λ n before. writes pe place n.event) since) || b)
        (x.seen_at p)
        ∙ ap (λ (b : Bool). b || spec.seen heading place p since)
        (sym (and-true (publishes_to heading dsb pe p && some (λ n before. writes pe place n.event) since)));
    half_at = λ p.
        half_is p
        ∙ ap (λ (b : Bool). b || pe_in w.trace.half p)
        (answered_by w.half (half_test heading place) since x.half_open covers tops position pe dsb p)
        ∙ ap (λ (b : Bool). answers_one (half_test heading place p) (Dsb pe dsb) since || b) (x.half_at p);
    cleansed_at = λ p. cleansed_part p;
    full_open = after_dsb w.full (full_test heading place) since x.full_open covers tops position pe dsb full full_is;
    half_open = after_dsb w.half (half_test heading place) since x.half_open covers tops position pe dsb half half_left;
    second_open = after_dsb w.second (second_test heading place) since x.second_open covers tops position pe dsb second
        second_is;
  }
    where
      cleansed_part : (p : ℕ) → pe_in t.cleansed p
          ≡ spec.cleansed heading Patterns place p
          (record { event = Dsb pe dsb; covers = covers; tops = tops; position = position } ∷ since)
      cleansed_part p =
          let a : Bool = answers_one (full_test heading place p) (Dsb pe dsb) since in
          let c : Bool = answers_one (second_test heading place p) (Dsb pe dsb) since in
          cleansed_is p
          ∙ ap (λ (b : Bool). (b || ((answers dsb true && is_open w.second pe true p)
          || (answers dsb false && is_open w.second pe false p))) || pe_in w.trace.cleansed p)
          (answered_by w.full (full_test heading place) since x.full_open covers tops position pe dsb p)
          ∙ ap (λ (b : Bool). (a || b) || pe_in w.trace.cleansed p)
          (answered_by w.second (second_test heading place) since x.second_open covers tops position pe dsb p)
          ∙ ap (λ (b : Bool). (a || c) || b) (x.cleansed_at p)
          ∙ or_middle a c (some (λ n older. answers_one (full_test heading place p) n.event older) since)
          (some (λ n older. answers_one (second_test heading place p) n.event older) since)

  pub walk_tlbi : (op : TlbiOp) (xt : ℕ) (cover : Cover) (broadcast : Bool) (full half second : Open)
      (seens halfs fulls halves seconds : PeMask) →
      broadcast ≡ (operation op).broadcast → covers place ≡ cover →
      ((p : ℕ) → pe_in seens p ≡ ((broadcast || (not heading.cnp && nat_eq pe p)) && pe_in w.trace.seen p)) →
      ((p : ℕ) → pe_in halfs p ≡ ((broadcast || (not heading.cnp && nat_eq pe p)) && pe_in w.trace.half p)) →
      ((p : ℕ) → pe_in fulls p ≡ (same_cover cover Full && pe_in seens p)) →
      ((p : ℕ) → pe_in halves p ≡ (same_cover cover Half && pe_in seens p)) →
      ((p : ℕ) → pe_in seconds p ≡ (same_cover cover Second && pe_in halfs p)) →
      ((q : ℕ) (b : Bool) (p : ℕ) → is_open full q b p
      ≡ (is_open w.full q b p || (nat_eq pe q && (same_flag b broadcast && pe_in fulls p)))) →
      ((q : ℕ) (b : Bool) (p : ℕ) → is_open half q b p
      ≡ (is_open w.half q b p || (nat_eq pe q && (same_flag b broadcast && pe_in halves p)))) →
      ((q : ℕ) (b : Bool) (p : ℕ) → is_open second q b p
      ≡ (is_open w.second q b p || (nat_eq pe q && (same_flag b broadcast && pe_in seconds p)))) →
      IsWalk (record w { full = full; half = half; second = second }) heading place
      (record { event = Tlbi pe op xt; covers = covers; tops = tops; position = position } ∷ since)
  walk_tlbi op xt cover broadcast full half second seens halfs fulls halves seconds flag covered seens_are halfs_are
      fulls_are halves_are seconds_are full_is half_is second_is = record {
        writers = x.writers;
        seen_at = x.seen_at;
        half_at = x.half_at;
        cleansed_at = x.cleansed_at;
        full_open = after_tlbi w.full (full_test heading place) since x.full_open covers tops position pe op xt full
            (pe_in fulls) (flagged w.full full fulls full_is)
            (λ p. counts Full (pe_in fulls p) (pe_in seens p) (pe_in w.trace.seen p) (spec.seen heading place p since) p
            (fulls_are p) (seens_are p) (x.seen_at p));
        half_open = after_tlbi w.half (half_test heading place) since x.half_open covers tops position pe op xt half
            (pe_in halves) (flagged w.half half halves half_is)
            (λ p. counts Half (pe_in halves p) (pe_in seens p) (pe_in w.trace.seen p)
            (spec.seen heading place p since) p
            (halves_are p) (seens_are p) (x.seen_at p));
        second_open = after_tlbi w.second (second_test heading place) since x.second_open covers tops position pe op xt
            second
            (pe_in seconds) (flagged w.second second seconds second_is)
            (λ p. counts Second (pe_in seconds p) (pe_in halfs p) (pe_in w.trace.half p)
            (spec.half heading place p since) p
            (seconds_are p) (halfs_are p) (x.half_at p));
      }
    where
      flagged : (old new : Open) (m : PeMask) →
          ((q : ℕ) (b : Bool) (p : ℕ) → is_open new q b p
          ≡ (is_open old q b p || (nat_eq pe q && (same_flag b broadcast && pe_in m p)))) →
          (q : ℕ) (b : Bool) (p : ℕ) → is_open new q b p
          ≡ (is_open old q b p || (nat_eq pe q && (same_flag b (operation op).broadcast && pe_in m p)))
      flagged old new m e q b p = e q b p ∙ ap
          (λ (f : Bool). is_open old q b p || (nat_eq pe q && (same_flag b f && pe_in m p))) flag

      counts : (asked : Cover) (m r s s' : Bool) (p : ℕ) → m ≡ (same_cover cover asked && r)
          → r ≡ ((broadcast || (not heading.cnp && nat_eq pe p)) && s) → s ≡ s' →
          m ≡ (((operation op).broadcast || (not heading.cnp && nat_eq pe p)) && same_cover (covers place) asked && s')
      counts asked m r s s' p e g f =
          e
          ∙ ap (λ (b : Bool). same_cover cover asked && b) g
          ∙ ap (λ (b : Bool). same_cover cover asked && ((b || (not heading.cnp && nat_eq pe p)) && s)) flag
          ∙ shuffle ((operation op).broadcast || (not heading.cnp && nat_eq pe p)) (same_cover cover asked) s
          ∙ ap (λ (c : Cover). ((operation op).broadcast || (not heading.cnp && nat_eq pe p)) && same_cover c asked
          && s) (sym covered)
          ∙ ap (λ (b : Bool). ((operation op).broadcast || (not heading.cnp && nat_eq pe p))
          && same_cover (covers place) asked && b) f

  -- a TLBI where the place is seen and half nowhere
  pub walk_early : (op : TlbiOp) (xt : ℕ) → ((p : ℕ) → pe_in w.trace.seen p ≡ false)
      → ((p : ℕ) → pe_in w.trace.half p ≡ false) →
      IsWalk w heading place (record { event = Tlbi pe op xt; covers = covers; tops = tops; position = position } ∷ since)
  walk_early op xt unseen unhalf = record {
    writers = x.writers;
    seen_at = x.seen_at;
    half_at = x.half_at;
    cleansed_at = x.cleansed_at;
    full_open = early w.full (full_test heading place) x.full_open
        (λ p. last_false (reach p) (same_cover (covers place) Full) (spec.seen heading place p since)
        (sym (x.seen_at p) ∙ unseen p));
    half_open = early w.half (half_test heading place) x.half_open
        (λ p. last_false (reach p) (same_cover (covers place) Half) (spec.seen heading place p since)
        (sym (x.seen_at p) ∙ unseen p));
    second_open = early w.second (second_test heading place) x.second_open
        (λ p. last_false (reach p) (same_cover (covers place) Second) (spec.half heading place p since)
        (sym (x.half_at p) ∙ unhalf p));
  }
    where
      reach : ℕ → Bool
      reach p = (operation op).broadcast || (not heading.cnp && nat_eq pe p)

      early : (o : Open) (test : ℕ → Issued Noted → Bool) → IsOpen o test since →
          ((p : ℕ) → test p (record {
            tlbi = record { event = Tlbi pe op xt; covers = covers; tops = tops; position = position };
            before = since;
          }) ≡ false) →
          IsOpen o test (record { event = Tlbi pe op xt; covers = covers; tops = tops; position = position } ∷ since)
      early o test is fails =
          after_tlbi o test since is covers tops position pe op xt o (λ p. false)
          (λ q b p. no_more (is_open o q b p) (nat_eq pe q) (same_flag b (operation op).broadcast)) (λ p. sym (fails p))

-- the event of the newest note is this one
pub event_is : (w : Walk) (heading : Heading) (place before : ℕ) (covering : Covering) (k : Kept) (since : List Noted)
    (e : Event) → k.event ≡ e →
    IsWalk w heading place (record {
      event = e;
      covers = cover_in (listed covering k);
      tops = cover_in k.tops.items;
      position = suc before;
    } ∷ since) →
    IsWalk w heading place (noted_for covering before k ∷ since)
event_is w heading place before covering k since e is x =
    subst (λ (d : Event). IsWalk w heading place (record {
      event = d;
      covers = cover_in (listed covering k);
      tops = cover_in k.tops.items;
      position = suc before;
    } ∷ since)) (sym is) x

-- one note more
pub for_more : (covering : Covering) (before : ℕ) (k : Kept) (ns : List Noted)
    → notes_for covering (note_of before k ∷ ns) ≡ noted_for covering before k ∷ notes_for covering ns
for_more Whole before k ns = refl
for_more Top before k ns = refl

-- ---- a place that isn't written

-- a walk that has found nothing, its sets this one
abbrev pub found_nothing : PeMask → Walk
found_nothing m = record {
  writers = m;
  trace = record { seen = m; half = m; cleansed = m };
  full = record { broadcast = record { rows = [] }; local = record { rows = [] } };
  half = record { broadcast = record { rows = [] }; local = record { rows = [] } };
  second = record { broadcast = record { rows = [] }; local = record { rows = [] } };
}

module _ (heading : Heading) (place : ℕ) (m : PeMask) (none : (p : ℕ) → pe_in m p ≡ false) where
  nothing_open : (q : ℕ) (b : Bool) (p : ℕ) → is_open
      (record { broadcast = record { rows = [] }; local = record { rows = [] } }) q b p ≡ false
  unfolding related
  nothing_open q true p = refl
  nothing_open q false p = refl

  nothing_answered : (dsb : Barrier) (pe p : ℕ) →
      ((answers dsb true && is_open (found_nothing m).full pe true p)
      || (answers dsb false && is_open (found_nothing m).full pe false p)) ≡ false
  nothing_answered dsb pe p =
      ap (λ (b : Bool). (answers dsb true && b) || (answers dsb false && is_open (found_nothing m).full pe false p))
      (nothing_open pe true p)
      ∙ ap (λ (b : Bool). (answers dsb true && false) || (answers dsb false && b)) (nothing_open pe false p)
      ∙ sym (is_none_of_two (answers dsb true) (answers dsb false))

  nothing_left : (dsb : Barrier) (pe q : ℕ) (b : Bool) (p : ℕ) →
      is_open (found_nothing m).full q b p ≡ (is_open (found_nothing m).full q b p
      && not (nat_eq pe q && answers dsb b))
  nothing_left dsb pe q b p = rw (nothing_open q b p) refl

  unwritten_more : (e : Event) (covers tops : ℕ → Cover) (position : ℕ) (since : List Noted)
      → is_write_of place e ≡ false → IsWalk (found_nothing m) heading place since →
      IsWalk (found_nothing m) heading place (record { event = e; covers = covers; tops = tops; position = position } ∷ since)
  unwritten_more (Dsb pe dsb) covers tops position since k x =
      walk_dsb (found_nothing m) heading place since x covers tops position pe dsb
      (record { seen = m; half = m; cleansed = m })
      (found_nothing m).full (found_nothing m).half (found_nothing m).second
      (λ p. none p ∙ sym (ap (λ (b : Bool). (publishes_to heading dsb pe p && pe_in m pe) || b) (none p)
      ∙ ap (λ (b : Bool). (publishes_to heading dsb pe p && b) || false) (none pe)
      ∙ ap (λ (b : Bool). b || false) (and-false (publishes_to heading dsb pe p))))
      (λ p. sym (ap (λ (b : Bool). b || pe_in m p) (nothing_answered dsb pe p)))
      (λ p. sym (ap (λ (b : Bool). (b || b) || pe_in m p) (nothing_answered dsb pe p)))
      (nothing_left dsb pe) (nothing_left dsb pe) (nothing_left dsb pe)
  unwritten_more (Tlbi pe op xt) covers tops position since k x =
      walk_early (found_nothing m) heading place since x covers tops position pe op xt none none
  unwritten_more (Write pe at value) covers tops position since k x =
      walk_idle (found_nothing m) heading place
      (record { event = Write pe at value; covers = covers; tops = tops; position = position }) since (ap not k) x
  unwritten_more e covers tops position since k x =
      walk_idle (found_nothing m) heading place
      (record { event = e; covers = covers; tops = tops; position = position }) since refl x

  walk_unwritten : (covering : Covering) (before : ℕ) (ks : List Kept) → some_writes place ks ≡ false
      → IsWalk (found_nothing m) heading place (notes_for covering (notes_behind before ks))
  walk_unwritten covering before [] k = by covering
    where
      nothing : IsWalk (found_nothing m) heading place []
      nothing = record {
        writers = none;
        seen_at = none;
        half_at = none;
        cleansed_at = none;
        full_open = record { by = nothing_open };
        half_open = record { by = nothing_open };
        second_open = record { by = nothing_open };
      }

      by : (c : Covering) → IsWalk (found_nothing m) heading place (notes_for c [])
      by Whole = nothing
      by Top = nothing
  walk_unwritten covering before (y ∷ ks) k =
      let parts : (is_write_of place y.event ≡ false) × (some_writes place ks ≡ false) =
      or_parts (is_write_of place y.event) (some_writes place ks) k in
      let n : Noted = noted_for covering (before + length ks) y in
      subst (λ (ns : List Noted). IsWalk (found_nothing m) heading place ns)
      (sym (for_more covering (before + length ks) y (notes_behind before ks)))
      (unwritten_more y.event n.covers n.tops n.position (notes_for covering (notes_behind before ks)) parts.0
      (walk_unwritten covering before ks parts.1))

  pub trace_unwritten : (covering : Covering) (before : ℕ) (ks : List Kept) → some_writes place ks ≡ false →
      Traces (record { seen = m; half = m; cleansed = m }) heading place
      (notes_for covering (notes_behind before (reverse ks)))
  trace_unwritten covering before ks k =
      let x : IsWalk (found_nothing m) heading place (notes_for covering (notes_behind before (reverse ks))) =
      walk_unwritten covering before (reverse ks) (any_reverse (writes_place place) ks ∙ k) in
      record { seen_at = x.seen_at; half_at = x.half_at; cleansed_at = x.cleansed_at }
