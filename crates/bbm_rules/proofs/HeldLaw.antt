-- What a place holds is what the sentence says, and a valid value that a place has is held.
use Rattle.bbm_rules.proofs.Common.{◌≡◌, ℕ, zero, suc, ◌<◌, ◌%◌, ◌&&◌, Bool, true, false, cond, ◌==◌, List, [], ◌∷◌}
use Rattle.bbm_rules.proofs.Common.{◌++◌, Option, Some, None, option_and_then, refl, sym, ◌∙◌, ap, subst, true≢false}
use Rattle.bbm_rules.proofs.Common.{arith, and_from, and_parts, eq-eqb, eqb-true, or_from, every_pe, Kind, is_valid}
use Rattle.bbm_rules.proofs.Common.{Trust, cleansed, seen, writes, ValidWrite, held, last_valid, last_valid_after}
use Rattle.bbm_rules.proofs.Common.{later, some, Noted, events_of, IsLastValid, Publication, page_of, value_of}
use Rattle.bbm_rules.proofs.Common.{and-false}
use Rattle.bbm_events.specs.Heading.{Heading}
use Rattle.bbm_events.specs.declared.event.Event.{Event}
use Rattle.bbm_events.specs.declared.event.Event.TheVariants.{Init, Write}
use Rattle.bbm_rules.proofs.Emptied.{emptied_seen, ends_last, last_goes_on}
use Rattle.bbm_rules.specs.Held.{emptied}
use Rattle.bbm_rules.proofs.HeldLemmas.{Holding, Older, holding, older as older_of, valid_is_odd}
use Rattle.bbm_rules.proofs.HeldLemmas.{uncleansed as left_held}
use Rattle.bbm_rules.proofs.PatternLaw.{cleansed_complete, cleansed_sound, seen_sound}
use Rattle.bbm_rules.proofs.Patterns.{cleansed_is_seen, is_write}
use Rattle.bbm_rules.proofs.SearchLemmas.{none_before, some_finds, some_later}
use Rattle.bbm_rules.specs.PatternSentences.{Holds, Seen}

-- ---- PEs

uncleansed_at : (n : ℕ) (test : ℕ → Bool) → every_pe n test ≡ false → (p : ℕ) × (p < n) × (test p ≡ false)
uncleansed_at zero test e = absurd (true≢false e)
uncleansed_at (suc n) test e = by (test n) refl e (uncleansed_at n test)
  where
    by : (b : Bool) → test n ≡ b → (b && every_pe n test) ≡ false
        → (every_pe n test ≡ false → (p : ℕ) × (p < n) × (test p ≡ false)) → (p : ℕ) × (p < suc n) × (test p ≡ false)
    by false t k before = (n, omega arith, t)
    by true t k before = let r = before k in let below = r.1 in (r.0, omega arith, r.2)

not_everywhere : (n p : ℕ) (test : ℕ → Bool) → p < n → test p ≡ false → every_pe n test ≡ false
not_everywhere zero p test below e = absurd (omega arith)
not_everywhere (suc n) p test below e = by (p == n) refl (λ lower. not_everywhere n p test lower e)
  where
    by : (b : Bool) → (p == n) ≡ b → (p < n → every_pe n test ≡ false) → (test n && every_pe n test) ≡ false
    by true same before = ap (λ (b : Bool). b && every_pe n test) (sym (ap test (eqb-true p n same)) ∙ e)
    by false other before =
        let apart : p ≡ n → ⊥ = λ i. true≢false (sym (eq-eqb p n i) ∙ other) in
        ap (λ (b : Bool). test n && b) (before (omega arith)) ∙ and-false (test n)

-- ---- the last valid write

module _ (kind : Kind) (level place : ℕ) where
  -- whether no value that was written before is the last valid one any more
  abbrev ends : Event → Bool
  ends e = ends_last kind level place e

  ends_write : (pe value : ℕ) → is_valid kind level value ≡ true → ends (Write pe place value) ≡ true
  ends_write pe value v = and_from (place == place) (is_valid kind level value) (eq-eqb place place refl) v

  ends_init : (pe : ℕ) → ends (Init pe (page_of place)) ≡ true
  ends_init pe = eq-eqb (page_of place) (page_of place) refl

  goes_on : (e : Event) (n : Noted) (found : Option ValidWrite) → ends e ≡ false
      → last_valid_after kind level place e n found ≡ later n found
  goes_on e n found k = last_goes_on kind level place e n found k

  -- a write that ends, and nothing that ends after it
  record LastWrite (h : List Noted) (w : ValidWrite) : Type 0 where
    pe : ℕ
    write : Noted
    older : List Noted
    split : h ≡ w.since ++ write ∷ older
    wrote : write.event ≡ Write pe place w.value
    valid : is_valid kind level w.value ≡ true
    quiet : (n : Noted) (after before : List Noted) → w.since ≡ after ++ n ∷ before → ends n.event ≡ false

  at_write : (h : List Noted) (n : Noted) (e : Event) (found : Option ValidWrite) (w : ValidWrite) → n.event ≡ e → ends e ≡ true
      → last_valid_after kind level place e n found ≡ Some w → LastWrite (n ∷ h) w
  at_write h n (Write pe at value) found w change k e =
      let parts = and_parts (at == place) (is_valid kind level value) k in
      let now : Some (record { value = value; since = [] }) ≡ Some w
      = sym (ap (λ (b : Bool). cond b (Some (record { value = value; since = [] })) (later n found)) k) ∙ e in
      let same : record { value = value; since = [] } ≡ w = cc in
      subst (λ (x : ValidWrite). LastWrite (n ∷ h) x) same (record {
        pe = pe;
        write = n;
        older = h;
        split = refl;
        wrote = change ∙ ap (λ (x : ℕ). Write pe x value) (eqb-true at place parts.0);
        valid = parts.1;
        quiet = λ m after before i. absurd (nothing m after before i);
      })
    where
      nothing : (m : Noted) (after before : List Noted) → [] ≡ after ++ m ∷ before → ⊥
      nothing m [] before i = cc
      nothing m (x ∷ after) before i = cc
  at_write h n (Init pe page) found w change k e =
      let now : None ≡ Some w = sym (ap (λ (b : Bool). cond b None (later n found)) k) ∙ e in cc
  at_write h n e found w change k i = absurd (true≢false (sym k))

  one_later : (h : List Noted) (n : Noted) (v w : ValidWrite) → v.value ≡ w.value → n ∷ v.since ≡ w.since → ends n.event ≡ false
      → LastWrite h v → LastWrite (n ∷ h) w
  one_later h n v w same longer k l = record {
    pe = l.pe;
    write = l.write;
    older = l.older;
    split = ap (λ (xs : List Noted). n ∷ xs) l.split ∙ ap (λ (xs : List Noted). xs ++ l.write ∷ l.older) longer;
    wrote = l.wrote ∙ ap (Write l.pe place) same;
    valid = subst (λ (x : ℕ). is_valid kind level x ≡ true) same l.valid;
    quiet = λ m after before i. by m after before (longer ∙ i);
  }
    where
      by : (m : Noted) (after before : List Noted) → n ∷ v.since ≡ after ++ m ∷ before → ends m.event ≡ false
      by m [] before i = let first : n ≡ m = cc in subst (λ (x : Noted). ends x.event ≡ false) first k
      by m (x ∷ after) before i = let rest : v.since ≡ after ++ m ∷ before = cc in l.quiet m after before rest

  last_found : (h : List Noted) (w : ValidWrite) → last_valid kind level place h ≡ Some w → LastWrite h w
  last_found [] w e = cc
  last_found (n ∷ h) w e = by (ends n.event) refl (last_found h)
    where
      by : (b : Bool) → ends n.event ≡ b
          → ((v : ValidWrite) → last_valid kind level place h ≡ Some v → LastWrite h v) → LastWrite (n ∷ h) w
      by true k before = at_write h n n.event (last_valid kind level place h) w refl k e
      by false k before =
          let o : Older n (last_valid kind level place h) w = older_of n (last_valid kind level place h) w
          (sym (goes_on n.event n (last_valid kind level place h) k) ∙ e) in
          one_later h n o.before w o.same o.longer k (before o.before o.is)

  here_by : (n : Noted) (found : Option ValidWrite) (pe value : ℕ) (e : Event) → e ≡ Write pe place value
      → is_valid kind level value ≡ true
      → last_valid_after kind level place e n found ≡ Some (record { value = value; since = [] })
  here_by n found pe value e is v =
      ap (λ (x : Event). last_valid_after kind level place x n found) is
      ∙ ap (λ (b : Bool). cond b (Some (record { value = value; since = [] })) (later n found))
      (and_from (place == place) (is_valid kind level value) (eq-eqb place place refl) v)

  last_finds : (newer older : List Noted) (write : Noted) (pe value : ℕ) → write.event ≡ Write pe place value
      → is_valid kind level value ≡ true
      → ((n : Noted) (after before : List Noted) → newer ≡ after ++ n ∷ before → ends n.event ≡ false)
      → last_valid kind level place (newer ++ write ∷ older) ≡ Some (record { value = value; since = newer })
  last_finds [] older write pe value is v quiet =
      here_by write (last_valid kind level place older) pe value write.event is v
  last_finds (n ∷ newer) older write pe value is v quiet =
      goes_on n.event n (last_valid kind level place (newer ++ write ∷ older)) (quiet n [] newer refl)
      ∙ ap (later n) (last_finds newer older write pe value is v
      (λ m after before i. quiet m (n ∷ after) before (ap (λ (xs : List Noted). n ∷ xs) i)))

  quiet_by : (newer : List Noted)
      → ((q v : ℕ) (n : Noted) (after before : List Noted) → newer ≡ after ++ n ∷ before
      → n.event ≡ Write q place v → is_valid kind level v ≡ false)
      → ((q : ℕ) (n : Noted) (after before : List Noted) → newer ≡ after ++ n ∷ before
      → n.event ≡ Init q (page_of place) → ⊥)
      → (n : Noted) (after before : List Noted) → newer ≡ after ++ n ∷ before → ends n.event ≡ false
  quiet_by newer last no_init n after before i = by n.event refl
    where
      by : (e : Event) → n.event ≡ e → ends e ≡ false
      by (Write pe at value) change = by_place (at == place) refl
        where
          by_place : (b : Bool) → (at == place) ≡ b → (b && is_valid kind level value) ≡ false
          by_place true same = last pe value n after before i (change ∙ ap (λ (x : ℕ). Write pe x value) (eqb-true at place same))
          by_place false other = refl
      by (Init pe page) change = by_page (page == page_of place) refl
        where
          by_page : (b : Bool) → (page == page_of place) ≡ b → b ≡ false
          by_page true same = absurd (no_init pe n after before i (change ∙ ap (Init pe) (eqb-true page (page_of place) same)))
          by_page false other = refl
      by e change = refl

-- the last valid write is what the sentence says
pub last_sound : (kind : Kind) (level place : ℕ) (h : List Noted) (w : ValidWrite) → last_valid kind level place h ≡ Some w
    → IsLastValid kind level place h w
last_sound kind level place h w e =
    let l : LastWrite kind level place h w = last_found kind level place h w e in
    record {
      pe = l.pe;
      write = l.write;
      older = l.older;
      split = l.split;
      wrote = l.wrote;
      valid = l.valid;
      last = λ q v n after before i is. not_valid v (is_valid kind level v) refl
          (λ valid. true≢false (sym (ap (ends kind level place) is ∙ ends_write kind level place q v valid) ∙ l.quiet n after before i));
      no_init = λ q n after before i is.
          true≢false (sym (ap (ends kind level place) is ∙ ends_init kind level place q) ∙ l.quiet n after before i);
    }
  where
    not_valid : (v : ℕ) (b : Bool) → is_valid kind level v ≡ b → (is_valid kind level v ≡ true → ⊥) → b ≡ false
    not_valid v true is never = absurd (never is)
    not_valid v false is never = refl

pub last_complete : (kind : Kind) (level place : ℕ) (h : List Noted) (w : ValidWrite) → IsLastValid kind level place h w
    → last_valid kind level place h ≡ Some w
last_complete kind level place h w k =
    ap (last_valid kind level place) k.split
    ∙ last_finds kind level place w.since k.older k.write k.pe w.value k.wrote k.valid
    (quiet_by kind level place w.since k.last k.no_init)

-- ---- a live value

module _ (kind : Kind) (level place : ℕ) where
  record LiveAfter (e : Event) (n : Noted) (found : Option ValidWrite) (present : ℕ) : Type 0 where
    w : ValidWrite
    is : last_valid_after kind level place e n found ≡ Some w
    same : w.value ≡ present
    unwritten : (q : ℕ) → some (is_write q place) w.since ≡ false

  record Live (h : List Noted) : Type 0 where
    w : ValidWrite
    is : last_valid kind level place h ≡ Some w
    same : w.value ≡ value_of (events_of h) place
    unwritten : (q : ℕ) → some (is_write q place) w.since ≡ false

  longer : (e : Event) (n : Noted) (h : List Noted) (present : ℕ) → n.event ≡ e → ((q : ℕ) → writes q place e ≡ false)
      → last_valid_after kind level place e n (last_valid kind level place h) ≡ later n (last_valid kind level place h)
      → present ≡ value_of (events_of h) place → Live h → LiveAfter e n (last_valid kind level place h) present
  longer e n h present change other goes same l = record {
    w = record { value = l.w.value; since = n ∷ l.w.since };
    is = goes ∙ ap (later n) l.is;
    same = l.same ∙ sym same;
    unwritten = λ q. or_from (writes q place n.event) (some (is_write q place) l.w.since)
        (ap (writes q place) change ∙ other q) (l.unwritten q);
  }

  zero_is_invalid : is_valid kind level 0 ≡ true → ⊥
  zero_is_invalid v = true≢false (sym (valid_is_odd kind level 0 v))

  live_after : (e : Event) (n : Noted) (h : List Noted) → n.event ≡ e
      → (is_valid kind level (value_of (events_of h) place) ≡ true → Live h)
      → is_valid kind level (value_of (e ∷ events_of h) place) ≡ true
      → LiveAfter e n (last_valid kind level place h) (value_of (e ∷ events_of h) place)
  live_after (Write pe at value) n h change before v = by (at == place) refl
    where
      by : (b : Bool) → (at == place) ≡ b
          → LiveAfter (Write pe at value) n (last_valid kind level place h) (value_of (Write pe at value ∷ events_of h) place)
      by true here =
          let valid : is_valid kind level value ≡ true
          = subst (λ (b : Bool). is_valid kind level (cond b value (value_of (events_of h) place)) ≡ true) here v in
          record {
            w = record { value = value; since = [] };
            is = ap (λ (b : Bool). cond b (Some (record { value = value; since = [] })) (later n (last_valid kind level place h)))
                (and_from (at == place) (is_valid kind level value) here valid);
            same = sym (ap (λ (b : Bool). cond b value (value_of (events_of h) place)) here);
            unwritten = λ q. refl;
          }
      by false there =
          longer (Write pe at value) n h (value_of (Write pe at value ∷ events_of h) place) change
          (λ q. ap (λ (b : Bool). pe == q && b) there ∙ and-false (pe == q))
          (ap (λ (b : Bool). cond (b && is_valid kind level value) (Some (record { value = value; since = [] }))
          (later n (last_valid kind level place h))) there)
          (ap (λ (b : Bool). cond b value (value_of (events_of h) place)) there)
          (before (subst (λ (b : Bool). is_valid kind level (cond b value (value_of (events_of h) place)) ≡ true) there v))
  live_after (Init pe page) n h change before v = by (page == page_of place) refl
    where
      by : (b : Bool) → (page == page_of place) ≡ b
          → LiveAfter (Init pe page) n (last_valid kind level place h) (value_of (Init pe page ∷ events_of h) place)
      by true here =
          absurd (zero_is_invalid
          (subst (λ (b : Bool). is_valid kind level (cond b 0 (value_of (events_of h) place)) ≡ true) here v))
      by false there =
          longer (Init pe page) n h (value_of (Init pe page ∷ events_of h) place) change (λ q. refl)
          (ap (λ (b : Bool). cond b None (later n (last_valid kind level place h))) there)
          (ap (λ (b : Bool). cond b 0 (value_of (events_of h) place)) there)
          (before (subst (λ (b : Bool). is_valid kind level (cond b 0 (value_of (events_of h) place)) ≡ true) there v))
  live_after e n h change before v =
      longer e n h (value_of (events_of h) place) change (λ q. refl) refl refl (before v)

  live : (h : List Noted) → is_valid kind level (value_of (events_of h) place) ≡ true → Live h
  live [] v = absurd (zero_is_invalid v)
  live (n ∷ h) v =
      let l : LiveAfter n.event n (last_valid kind level place h) (value_of (n.event ∷ events_of h) place)
      = live_after n.event n h refl (live h) v in
      record { w = l.w; is = l.is; same = l.same; unwritten = l.unwritten }

-- where there was no write, nothing is seen
never_seen : (heading : Heading) (place p : ℕ) (since : List Noted) → ((q : ℕ) → some (is_write q place) since ≡ false)
    → seen heading place p since ≡ false
never_seen heading place p since none = by (seen heading place p since) refl
  where
    by : (b : Bool) → seen heading place p since ≡ b → b ≡ false
    by false c = refl
    by true c =
        let s : Seen heading place p since = seen_sound heading place p since c in
        let k : Publication heading place p since s.0 = s.1 in
        absurd (true≢false (sym (subst (λ (xs : List Noted). some (is_write k.q place) xs ≡ true) (sym k.split)
        (some_later (is_write k.q place) k.newer (s.0 ∷ (k.between ++ k.write ∷ k.older))
        (some_later (is_write k.q place) (s.0 ∷ []) (k.between ++ k.write ∷ k.older)
        (some_finds (is_write k.q place) (k.between ++ k.write ∷ k.older) (record {
          newer = k.between;
          item = k.write;
          older = k.older;
          split = refl;
          passed = ap (writes k.q place) k.wrote
              ∙ and_from (k.q == k.q) (place == place) (eq-eqb k.q k.q refl) (eq-eqb place place refl);
        }))))) ∙ none k.q))

-- ---- what is held

module _ (heading : Heading) (trust : Trust) (kind : Kind) (level place : ℕ) where
  pub held_sound : (h : List Noted) (value : ℕ) → held heading trust kind level place h ≡ Some value
      → Holds heading trust kind level place h value
  held_sound h value e =
      let k : Holding heading trust place (emptied heading trust kind level place h) (last_valid kind level place h) value
      = holding heading trust place (emptied heading trust kind level place h) (last_valid kind level place h) value e in
      let l : IsLastValid kind level place h k.write = last_sound kind level place h k.write k.is in
      let p = uncleansed_at heading.pes (λ (p : ℕ). cleansed heading trust place p k.write.since) k.still in
      subst (λ (x : ℕ). Holds heading trust kind level place h x) k.same (record {
        since = k.write.since;
        last_write = l;
        p = p.0;
        is_pe = p.1;
        uncleansed = λ c. true≢false (sym (cleansed_complete heading trust place p.0 k.write.since c) ∙ p.2);
        unemptied = k.stays;
      })

  pub held_complete : (h : List Noted) (value : ℕ) → Holds heading trust kind level place h value
      → held heading trust kind level place h ≡ Some value
  held_complete h value k =
      ap (option_and_then (left_held heading trust place (emptied heading trust kind level place h)))
      (last_complete kind level place h (record { value = value; since = k.since }) k.last_write)
      ∙ ap (λ (b : Bool). cond b None (Some value))
      (or_from (emptied heading trust kind level place h) (every_pe heading.pes (λ (p : ℕ). cleansed heading trust place p k.since)) k.unemptied
      (not_everywhere heading.pes k.p (λ (p : ℕ). cleansed heading trust place p k.since) k.is_pe
      (by (cleansed heading trust place k.p k.since) refl)))
    where
      by : (b : Bool) → cleansed heading trust place k.p k.since ≡ b → b ≡ false
      by true c = absurd (k.uncleansed (cleansed_sound heading trust place k.p k.since c))
      by false c = refl

  -- where there was no write, nothing is cleansed
  uncleansed : (since : List Noted) (p : ℕ) → ((q : ℕ) → some (is_write q place) since ≡ false) → cleansed heading trust place p since ≡ false
  uncleansed since p none = by (cleansed heading trust place p since) refl
    where
      by : (b : Bool) → cleansed heading trust place p since ≡ b → b ≡ false
      by false c = refl
      by true c = absurd (true≢false (sym (cleansed_is_seen heading trust place p since c) ∙ never_seen heading place p since none))

  -- an emptied place was seen, so there was a write
  live_unemptied : (h : List Noted) → 0 < heading.pes → (l : Live kind level place h)
      → emptied heading trust kind level place h ≡ false
  live_unemptied h some_pes l = by (emptied heading trust kind level place h) refl
    where
      by : (b : Bool) → emptied heading trust kind level place h ≡ b → b ≡ false
      by false c = refl
      by true c = absurd (true≢false (sym (emptied_seen heading trust kind level place h l.w 0 some_pes c l.is)
          ∙ never_seen heading place 0 l.w.since l.unwritten))

  pub live_is_held : (h : List Noted) → 0 < heading.pes → is_valid kind level (value_of (events_of h) place) ≡ true
      → held heading trust kind level place h ≡ Some (value_of (events_of h) place)
  live_is_held h some_pes v =
      let l : Live kind level place h = live kind level place h v in
      ap (option_and_then (left_held heading trust place (emptied heading trust kind level place h))) l.is
      ∙ (ap (λ (b : Bool). cond b None (Some l.w.value))
      (or_from (emptied heading trust kind level place h) (every_pe heading.pes (λ (p : ℕ). cleansed heading trust place p l.w.since))
      (live_unemptied h some_pes l)
      (not_everywhere heading.pes 0 (λ (p : ℕ). cleansed heading trust place p l.w.since) some_pes (uncleansed l.w.since 0 l.unwritten)))
      ∙ ap Some l.same)

pub valid_if_held : (heading : Heading) (trust : Trust) (kind : Kind) (level place : ℕ) (h : List Noted) (value : ℕ)
    → held heading trust kind level place h ≡ Some value → is_valid kind level value ≡ true
valid_if_held heading trust kind level place h value e =
    let k : Holds heading trust kind level place h value = held_sound heading trust kind level place h value e in k.last_write.valid

-- The last valid write of a live place is its last write.
pub live_is_last : (kind : Kind) (level place : ℕ) (h : List Noted)
    → is_valid kind level (value_of (events_of h) place) ≡ true → (w : ValidWrite) × (last_valid kind level place h ≡ Some w)
    × (w.value ≡ value_of (events_of h) place) × ((q v : ℕ) (n : Noted) (after before : List Noted)
    → w.since ≡ after ++ n ∷ before → n.event ≡ Write q place v → ⊥)
live_is_last kind level place h v =
    let l : Live kind level place h = live kind level place h v in (
      l.w,
      l.is,
      l.same,
      λ q u n after before split is.
          true≢false (sym (ap (writes q place) is ∙ and_from (q == q) (place == place) (eq-eqb q q refl) (eq-eqb place place refl))
          ∙ none_before (is_write q place) l.w.since (l.unwritten q) after n before split),
    )

pub valid_has_bit_0 : (kind : Kind) (level value : ℕ) → is_valid kind level value ≡ true → value % 2 ≡ 1
valid_has_bit_0 kind level value v = eqb-true (value % 2) 1 (valid_is_odd kind level value v)
