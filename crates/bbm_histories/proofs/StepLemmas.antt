-- The step equations of the definitions that search.
use Rattle.bbm_histories.proofs.Common.{and-false, and-true, or-false, Heading, Below, cleansed_under, answered_by}
use Rattle.bbm_histories.proofs.Common.{held_after, seen_after, waits}
use Rattle.bbm_rules.proofs.Common.{◌≡◌, ℕ, ◌<◌, ◌&&◌, ◌||◌, not, Bool, true, false, cond, ◌==◌, List, [], ◌∷◌, length}
use Rattle.bbm_rules.proofs.Common.{Option, Some, None, option_and_then, refl, sym, ◌∙◌, ap, subst, true≢false, arith}
use Rattle.bbm_rules.proofs.Common.{eq-eqb, le-leb, proved, Is, answers, Kind, is_valid, same_flag, operation, Half}
use Rattle.bbm_rules.proofs.Common.{Barrier, Event, Init, Write, Dsb, Tlbi, Trust, Patterns, answered_where}
use Rattle.bbm_rules.proofs.Common.{answers_one, cleansed, flushes, full_step, half, publishes_write, second_step, seen}
use Rattle.bbm_rules.proofs.Common.{ValidWrite, held, last_valid, last_valid_after, later, any}
use Rattle.bbm_rules.proofs.Common.{Noted, events_of, page_of, Issued, completes, left_open, reaches, unanswered}
use Rattle.bbm_rules.proofs.Common.{itself, loses, read_since, reads_for_some, takes_tag, publishes_to, value_of}
use Rattle.bbm_rules.proofs.Common.{or_middle}
use Rattle.bbm_regimes.specs.declared.regime.Tag.{Tag}
use Rattle.bbm_rules.specs.Notes.{event_of}
use Rattle.bbm_rules.specs.Reach.{still_open}
use Rattle.bbm_rules.specs.Held.{emptied}
use Rattle.bbm_histories.specs.HistorySteps.{cleansed_after, half_after, is_tlbi, tag_waits, tag_waits_after, takes}
use Rattle.bbm_histories.specs.HistorySteps.{waits_after, wrote}
use Rattle.bbm_histories.proofs.HeldSteps.{held_same}
use Rattle.bbm_lemmas.proofs.Tests.{any_and, any_both, any_filter, any_never, any_or, any_same}
use Rattle.bbm_rules.proofs.HeldLemmas.{uncleansed}
use Rattle.bbm_rules.proofs.TagLaw.{unread_yet}

-- ---- what waits

-- the TLBIs of a kind that a DSB leaves
left_kind : (dsb : Barrier) (b : Bool) (e : Event) (test : Bool)
    → (not (completes dsb e) && (is_tlbi b e && test)) ≡ cond (answers dsb b) false (is_tlbi b e && test)
left_kind dsb b (Tlbi pe op xt) test = by b (operation op).broadcast
  where
    one : (a : Bool) → (not a && test) ≡ cond a false test
    one true = refl
    one false = refl

    other : (a c : Bool) → (not a && false) ≡ cond c false false
    other = proved 2 (λ a c. Is (not a && false) (cond c false false)) refl

    by : (b x : Bool) → (not (answers dsb x) && (same_flag x b && test)) ≡ cond (answers dsb b) false (same_flag x b && test)
    by true true = one (answers dsb true)
    by false false = one (answers dsb false)
    by true false = other (answers dsb false) (answers dsb true)
    by false true = other (answers dsb true) (answers dsb false)
left_kind dsb b e test = proved 1 (λ c. Is false (cond c false false)) refl (answers dsb b)

-- those that it completes, by kind
completed_kind : (dsb : Barrier) (e : Event) (test : Bool) → (completes dsb e && test)
    ≡ ((answers dsb true && (is_tlbi true e && test)) || (answers dsb false && (is_tlbi false e && test)))
completed_kind dsb (Tlbi pe op xt) test = by (operation op).broadcast
  where
    by : (x : Bool) → (answers dsb x && test)
        ≡ ((answers dsb true && (same_flag x true && test)) || (answers dsb false && (same_flag x false && test)))
    by true = sym (ap (λ (c : Bool). (answers dsb true && test) || c) (and-false (answers dsb false)) ∙ or-false (answers dsb true && test))
    by false = sym (ap (λ (c : Bool). c || (answers dsb false && test)) (and-false (answers dsb true)))
completed_kind dsb e test =
    sym (ap (λ (c : Bool). c || (answers dsb false && false)) (and-false (answers dsb true)) ∙ and-false (answers dsb false))

module _ (A : Type 0) (event : A → Event) (q : ℕ) where
  -- what a DSB answers
  pub answered_kinds : (dsb : Barrier) (test : Issued A → Bool) (h : List A)
      → any (λ t. completes dsb (event t.tlbi) && test t) (unanswered event q h)
      ≡ answered_by dsb (λ b. waits event q b test h)
  answered_kinds dsb test h =
      any_same (λ t. completes dsb (event t.tlbi) && test t)
      (λ t. (answers dsb true && (is_tlbi true (event t.tlbi) && test t)) || (answers dsb false && (is_tlbi false (event t.tlbi) && test t)))
      (unanswered event q h) (λ t. completed_kind dsb (event t.tlbi) (test t))
      ∙ (any_or (λ t. answers dsb true && (is_tlbi true (event t.tlbi) && test t)) (λ t. answers dsb false && (is_tlbi false (event t.tlbi) && test t)) (unanswered event q h)
      ∙ (ap (λ (c : Bool). c || any (λ (t : Issued A). answers dsb false && (is_tlbi false (event t.tlbi) && test t)) (unanswered event q h))
      (any_and (answers dsb true) (λ t. is_tlbi true (event t.tlbi) && test t) (unanswered event q h))
      ∙ ap (λ (c : Bool). (answers dsb true && waits event q true test h) || c)
      (any_and (answers dsb false) (λ t. is_tlbi false (event t.tlbi) && test t) (unanswered event q h))))

  left_waits : (b : Bool) (test : Issued A → Bool) (dsb : Barrier) (ts : List (Issued A))
      → any (λ t. is_tlbi b (event t.tlbi) && test t) (left_open event dsb ts)
      ≡ cond (answers dsb b) false (any (λ t. is_tlbi b (event t.tlbi) && test t) ts)
  left_waits b test dsb ts =
      any_filter (λ t. is_tlbi b (event t.tlbi) && test t) (λ t. not (completes dsb (event t.tlbi))) ts
      ∙ (any_same (λ t. not (completes dsb (event t.tlbi)) && (is_tlbi b (event t.tlbi) && test t))
      (λ t. cond (answers dsb b) false (is_tlbi b (event t.tlbi) && test t)) ts (λ t. left_kind dsb b (event t.tlbi) (test t))
      ∙ by (answers dsb b))
    where
      by : (c : Bool) → any (λ t. cond c false (is_tlbi b (event t.tlbi) && test t)) ts
          ≡ cond c false (any (λ t. is_tlbi b (event t.tlbi) && test t) ts)
      by true = any_never ts
      by false = refl

  waits_by : (b : Bool) (test : Issued A → Bool) (e : Event) (x : A) (h : List A) → event x ≡ e
      → any (λ t. is_tlbi b (event t.tlbi) && test t) (still_open event q e (record { tlbi = x; before = h }) (unanswered event q h))
      ≡ waits_after event q b test e x h
  waits_by b test (Tlbi pe op xt) x h same = by (pe == q)
    where
      by : (c : Bool) → any (λ t. is_tlbi b (event t.tlbi) && test t)
          (cond c (record { tlbi = x; before = h } ∷ unanswered event q h) (unanswered event q h))
          ≡ ((c && (is_tlbi b (Tlbi pe op xt) && test (record { tlbi = x; before = h }))) || waits event q b test h)
      by true = ap (λ (e : Event). (is_tlbi b e && test (record { tlbi = x; before = h })) || waits event q b test h) same
      by false = refl
  waits_by b test (Dsb pe dsb) x h same = by (pe == q)
    where
      by : (c : Bool) → any (λ t. is_tlbi b (event t.tlbi) && test t)
          (cond c (left_open event dsb (unanswered event q h)) (unanswered event q h))
          ≡ cond (c && answers dsb b) false (waits event q b test h)
      by true = left_waits b test dsb (unanswered event q h)
      by false = refl
  waits_by b test e x h same = refl

  pub waits_step : (b : Bool) (test : Issued A → Bool) (x : A) (h : List A)
      → waits event q b test (x ∷ h) ≡ waits_after event q b test (event x) x h
  waits_step b test x h = waits_by b test (event x) x h refl

-- ---- one place

module _ (heading : Heading) (place p : ℕ) where
  seen_by : (e : Event) (since : List Noted) → ((publishes_write heading place p e since && true) || seen heading place p since)
      ≡ seen_after heading place p e since
  seen_by (Dsb q dsb) since =
      ap (λ (c : Bool). c || seen heading place p since) (and-true (publishes_to heading dsb q p && wrote heading place p q since))
  seen_by e since = refl

  pub seen_step : (n : Noted) (since : List Noted) → seen heading place p (n ∷ since) ≡ seen_after heading place p n.event since
  seen_step n since = seen_by n.event since

  half_by : (e : Event) (since : List Noted)
      → (answers_one (flushes heading place p Half (seen heading place p)) e since || half heading place p since)
      ≡ half_after heading place p e since
  half_by (Dsb q dsb) since =
      ap (λ (c : Bool). c || half heading place p since)
      (answered_kinds Noted event_of q dsb (flushes heading place p Half (seen heading place p)) since)
  half_by e since = refl

  pub half_step : (n : Noted) (since : List Noted) → half heading place p (n ∷ since) ≡ half_after heading place p n.event since
  half_step n since = half_by n.event since

  -- under every trust; the event has position d
  cleansed_then : (trust : Trust) (d : ℕ) (e : Event) (since : List Noted) → ((answers_one (full_step heading trust place p d) e since
      || answered_where (full_step heading trust place p) since)
      || (answers_one (second_step heading trust place p d) e since
      || answered_where (second_step heading trust place p) since)) ≡ cleansed_under heading place p trust d e since
  cleansed_then trust d (Dsb q dsb) since =
      or_middle (answers_one (full_step heading trust place p d) (Dsb q dsb) since)
      (answered_where (full_step heading trust place p) since)
      (answers_one (second_step heading trust place p d) (Dsb q dsb) since)
      (answered_where (second_step heading trust place p) since)
      ∙ (ap (λ (c : Bool). (c || answers_one (second_step heading trust place p d) (Dsb q dsb) since) || cleansed heading trust place p since)
      (answered_kinds Noted event_of q dsb (full_step heading trust place p d) since)
      ∙ ap (λ (c : Bool). (answered_by dsb (λ b. waits event_of q b (full_step heading trust place p d) since) || c)
      || cleansed heading trust place p since)
      (answered_kinds Noted event_of q dsb (second_step heading trust place p d) since))
  cleansed_then trust d e since = refl

  pub cleansed_under_step : (trust : Trust) (n : Noted) (since : List Noted)
      → cleansed heading trust place p (n ∷ since) ≡ cleansed_under heading place p trust n.position n.event since
  cleansed_under_step trust n since = cleansed_then trust n.position n.event since

  in_all_patterns : (d : ℕ) (e : Event) (since : List Noted)
      → cleansed_under heading place p Patterns d e since ≡ cleansed_after heading place p e since
  in_all_patterns d (Dsb q dsb) since = refl
  in_all_patterns d e since = refl

  pub cleansed_step : (n : Noted) (since : List Noted)
      → cleansed heading Patterns place p (n ∷ since) ≡ cleansed_after heading place p n.event since
  cleansed_step n since = cleansed_under_step Patterns n since ∙ in_all_patterns n.position n.event since

-- ---- what a place holds

module _ (heading : Heading) (trust : Trust) (b : Below heading trust) (kind : Kind) (level place : ℕ) (pes : 0 < heading.pes) where
  -- what a valid write leaves held after these events
  abbrev left_held : List Noted → ValidWrite → Option ℕ
  left_held h = uncleansed heading trust place (emptied heading trust kind level place h)

  held_by : (e : Event) (n : Noted) (h : List Noted) → n.event ≡ e
      → held heading trust kind level place (n ∷ h) ≡ held_after heading trust kind level place e n h
  held_by (Write pe at value) n h change = by (at == place) (is_valid kind level value) refl refl
    where
      by : (c v : Bool) → (at == place) ≡ c → is_valid kind level value ≡ v
          → held heading trust kind level place (n ∷ h) ≡ cond (c && v) (Some value) (held heading trust kind level place h)
      by true true c v =
          let present : value_of (n.event ∷ events_of h) place ≡ value
          = ap (λ (x : Event). value_of (x ∷ events_of h) place) change ∙ ap (λ (t : Bool). cond t value (value_of (events_of h) place)) c in
          b.held.live kind level place (n ∷ h) pes (subst (λ (y : ℕ). is_valid kind level y ≡ true) (sym present) v)
          ∙ ap Some present
      by true false c v = held_same heading trust b kind level place n h (record {
        no_write = λ q u is. let both : Write pe at value ≡ Write q place u = sym change ∙ is in
            let same : value ≡ u = cc in subst (λ (y : ℕ). is_valid kind level y ≡ false) same v;
        no_init = λ q is. let apart : Write pe at value ≡ Init q (page_of place) = sym change ∙ is in cc;
        no_dsb = λ k. let apart : Write pe at value ≡ Dsb k.0 k.1 = sym change ∙ k.2 in cc;
      })
      by false v c k = held_same heading trust b kind level place n h (record {
        no_write = λ q u is. let both : Write pe at value ≡ Write q place u = sym change ∙ is in
            let same : at ≡ place = cc in absurd (true≢false (sym (eq-eqb at place same) ∙ c));
        no_init = λ q is. let apart : Write pe at value ≡ Init q (page_of place) = sym change ∙ is in cc;
        no_dsb = λ k. let apart : Write pe at value ≡ Dsb k.0 k.1 = sym change ∙ k.2 in cc;
      })
  held_by (Init pe page) n h change = by (page == page_of place) refl
    where
      by : (c : Bool) → (page == page_of place) ≡ c
          → held heading trust kind level place (n ∷ h) ≡ cond c None (held heading trust kind level place h)
      by true c =
          ap (option_and_then (left_held (n ∷ h)))
          (ap (λ (x : Event). last_valid_after kind level place x n (last_valid kind level place h)) change
          ∙ ap (λ (t : Bool). cond t None (later n (last_valid kind level place h))) c)
      by false c = held_same heading trust b kind level place n h (record {
        no_write = λ q u is. let apart : Init pe page ≡ Write q place u = sym change ∙ is in cc;
        no_init = λ q is. let both : Init pe page ≡ Init q (page_of place) = sym change ∙ is in
            let same : page ≡ page_of place = cc in true≢false (sym (eq-eqb page (page_of place) same) ∙ c);
        no_dsb = λ k. let apart : Init pe page ≡ Dsb k.0 k.1 = sym change ∙ k.2 in cc;
      })
  held_by (Dsb pe dsb) n h change =
      ap (option_and_then (left_held (n ∷ h)))
      (ap (λ (x : Event). last_valid_after kind level place x n (last_valid kind level place h)) change)
      ∙ one_more (last_valid kind level place h)
    where
      one_more : (o : Option ValidWrite)
          → option_and_then (left_held (n ∷ h)) (later n o)
          ≡ option_and_then (λ w. left_held (n ∷ h) (record w { since = n ∷ w.since })) o
      one_more None = refl
      one_more (Some w) = refl
  held_by e n h change = held_same heading trust b kind level place n h (record {
    no_write = λ q u is. let apart : e ≡ Write q place u = sym change ∙ is in cc;
    no_init = λ q is. let apart : e ≡ Init q (page_of place) = sym change ∙ is in cc;
    no_dsb = λ k. let apart : e ≡ Dsb k.0 k.1 = sym change ∙ k.2 in cc;
  })

  pub held_step : (n : Noted) (h : List Noted)
      → held heading trust kind level place (n ∷ h) ≡ held_after heading trust kind level place n.event n h
  held_step n h = held_by n.event n h refl

-- ---- tags

module _ (q : ℕ) where
  -- tests that agree on TLBIs with so few events before them agree on the unanswered ones of a history
  abbrev OlderAgree : ℕ → List Event → Type 0
  OlderAgree n h = (f g : Issued Event → Bool) → ((t : Issued Event) → length t.before < n → f t ≡ g t)
      → any f (unanswered itself q h) ≡ any g (unanswered itself q h)

  -- tests that agree on what came before a history agree on its unanswered TLBIs
  same_unanswered : (f g : Issued Event → Bool) (h : List Event)
      → ((t : Issued Event) → length t.before < length h → f t ≡ g t) → any f (unanswered itself q h) ≡ any g (unanswered itself q h)
  same_unanswered f g [] same = refl
  same_unanswered f g (e ∷ h) same =
      by (λ f g same. same_unanswered f g h (λ t less. same t (omega arith))) e
    where
      by : OlderAgree (length (e ∷ h)) h → (x : Event) → any f (still_open itself q x (record { tlbi = e; before = h }) (unanswered itself q h))
          ≡ any g (still_open itself q x (record { tlbi = e; before = h }) (unanswered itself q h))
      by older (Tlbi pe op xt) = go (pe == q)
        where
          go : (c : Bool) → any f (cond c (record { tlbi = e; before = h } ∷ unanswered itself q h) (unanswered itself q h))
              ≡ any g (cond c (record { tlbi = e; before = h } ∷ unanswered itself q h) (unanswered itself q h))
          go true =
              ap (λ (b : Bool). b || any f (unanswered itself q h)) (same (record { tlbi = e; before = h }) (omega arith))
              ∙ ap (λ (b : Bool). g (record { tlbi = e; before = h }) || b) (older f g same)
          go false = older f g same
      by older (Dsb pe dsb) = go (pe == q)
        where
          go : (c : Bool) → any f (cond c (left_open itself dsb (unanswered itself q h)) (unanswered itself q h))
              ≡ any g (cond c (left_open itself dsb (unanswered itself q h)) (unanswered itself q h))
          go true =
              any_filter f (λ t. not (completes dsb (itself t.tlbi))) (unanswered itself q h)
              ∙ (older (λ t. not (completes dsb (itself t.tlbi)) && f t) (λ t. not (completes dsb (itself t.tlbi)) && g t)
              (λ t less. ap (λ (b : Bool). not (completes dsb (itself t.tlbi)) && b) (same t less))
              ∙ sym (any_filter g (λ t. not (completes dsb (itself t.tlbi))) (unanswered itself q h)))
          go false = older f g same
      by older x = older f g same

module _ (heading : Heading) (p : ℕ) (tag : Tag) where
  -- a TLBI takes the tag after one more event where it did before, unless the tag is readable then
  takes_on : (e : Event) (h : List Event) (t : Issued Event) → length t.before < length h
      → takes heading p tag (e ∷ h) t ≡ (takes heading p tag h t && not (reads_for_some heading (e ∷ h) p tag))
  takes_on e h t less =
      ap (λ (c : Bool). (reaches heading t.tlbi p && takes_tag heading t.tlbi t.before tag)
      && not ((c && reads_for_some heading (e ∷ h) p tag) || read_since heading (length t.before) p tag h))
      (le-leb (length t.before) (length h) (omega arith))
      ∙ proved 3 (λ a r s. Is (a && not ((true && r) || s)) ((a && not s) && not r)) refl (reaches heading t.tlbi p
      && takes_tag heading t.tlbi t.before tag) (reads_for_some heading (e ∷ h) p tag)
      (read_since heading (length t.before) p tag h)

  -- the TLBI that the event is
  takes_now : (e : Event) (h : List Event) → takes heading p tag (e ∷ h) (record { tlbi = e; before = h })
      ≡ ((reaches heading e p && takes_tag heading e h tag) && not (reads_for_some heading (e ∷ h) p tag))
  takes_now e h =
      ap (λ (c : Bool). (reaches heading e p && takes_tag heading e h tag)
      && not ((c && reads_for_some heading (e ∷ h) p tag) || read_since heading (length h) p tag h)) (le-leb (length h) (length h) (omega arith))
      ∙ (ap (λ (c : Bool). (reaches heading e p && takes_tag heading e h tag) && not ((true && reads_for_some heading (e ∷ h) p tag) || c))
      (unread_yet heading p tag (length h) h (omega arith))
      ∙ ap (λ (c : Bool). (reaches heading e p && takes_tag heading e h tag) && not c) (or-false (reads_for_some heading (e ∷ h) p tag)))

  -- those with so many events before them that a test holds
  abbrev pub takes_of : (ℕ → Bool) → List Event → Issued Event → Bool
  takes_of pos h t = pos (length t.before) && takes heading p tag h t

  abbrev pub waits_of : (ℕ → Bool) → ℕ → Bool → List Event → Bool
  waits_of pos q b h = waits itself q b (takes_of pos h) h

  abbrev pub waits_of_after : (ℕ → Bool) → ℕ → Bool → Event → List Event → Bool
  waits_of_after pos q b (Tlbi pe op xt) h = (pe == q && (is_tlbi b (Tlbi pe op xt) && (pos (length h)
      && (reaches heading (Tlbi pe op xt) p && takes_tag heading (Tlbi pe op xt) h tag)))) || waits_of pos q b h
  waits_of_after pos q b (Dsb pe dsb) h = cond (pe == q && answers dsb b) false (waits_of pos q b h)
  waits_of_after pos q b _ h = waits_of pos q b h

  outwards : (k a t r : Bool) → (k && (a && (t && r))) ≡ ((k && (a && t)) && r)
  outwards = proved 4 (λ k a t r. Is (k && (a && (t && r))) ((k && (a && t)) && r)) refl

  -- what waited before the event
  waited : (pos : ℕ → Bool) (q : ℕ) (b : Bool) (e : Event) (h : List Event) → waits itself q b (takes_of pos (e ∷ h)) h
      ≡ (waits_of pos q b h && not (reads_for_some heading (e ∷ h) p tag))
  waited pos q b e h =
      same_unanswered q (λ t. is_tlbi b t.tlbi && takes_of pos (e ∷ h) t)
      (λ t. (is_tlbi b t.tlbi && takes_of pos h t) && not (reads_for_some heading (e ∷ h) p tag)) h
      (λ t less. ap (λ (c : Bool). is_tlbi b t.tlbi && (pos (length t.before) && c)) (takes_on e h t less)
      ∙ outwards (is_tlbi b t.tlbi) (pos (length t.before)) (takes heading p tag h t) (not (reads_for_some heading (e ∷ h) p tag)))
      ∙ any_both (λ t. is_tlbi b t.tlbi && takes_of pos h t) (not (reads_for_some heading (e ∷ h) p tag)) (unanswered itself q h)

  tag_by : (pos : ℕ → Bool) (q : ℕ) (b : Bool) (x e : Event) (h : List Event) → e ≡ x
      → waits_after itself q b (takes_of pos (e ∷ h)) x e h
      ≡ (waits_of_after pos q b x h && not (reads_for_some heading (e ∷ h) p tag))
  tag_by pos q b (Tlbi pe op xt) e h same =
      ap (λ (c : Bool). (pe == q && (is_tlbi b (Tlbi pe op xt) && (pos (length h) && c))) || waits itself q b
      (takes_of pos (e ∷ h)) h)
      (takes_now e h ∙ ap (λ (y : Event). (reaches heading y p && takes_tag heading y h tag) && not
      (reads_for_some heading (e ∷ h) p tag)) same)
      ∙ (ap (λ (c : Bool). (pe == q && (is_tlbi b (Tlbi pe op xt) && (pos (length h)
      && ((reaches heading (Tlbi pe op xt) p && takes_tag heading (Tlbi pe op xt) h tag) && not (reads_for_some heading
      (e ∷ h) p tag))))) || c)
      (waited pos q b e h)
      ∙ proved 6 (λ a k o s w c. Is ((a && (k && (o && (s && c)))) || (w && c)) (((a && (k && (o && s))) || w) && c))
      refl (pe == q) (is_tlbi b (Tlbi pe op xt)) (pos (length h)) (reaches heading (Tlbi pe op xt) p
      && takes_tag heading (Tlbi pe op xt) h tag)
      (waits_of pos q b h) (not (reads_for_some heading (e ∷ h) p tag)))
  tag_by pos q b (Dsb pe dsb) e h same =
      ap (λ (c : Bool). cond (pe == q && answers dsb b) false c) (waited pos q b e h)
      ∙ proved 3 (λ c w r. Is (cond c false (w && r)) (cond c false w && r)) refl (pe == q && answers dsb b)
      (waits_of pos q b h) (not (reads_for_some heading (e ∷ h) p tag))
  tag_by pos q b x e h same = waited pos q b e h

  pub waits_of_step : (pos : ℕ → Bool) (q : ℕ) (b : Bool) (e : Event) (h : List Event) → waits_of pos q b (e ∷ h)
      ≡ (waits_of_after pos q b e h && not (reads_for_some heading (e ∷ h) p tag))
  waits_of_step pos q b e h =
      waits_step Event itself q b (takes_of pos (e ∷ h)) e h ∙ tag_by pos q b e e h refl

  -- every such TLBI
  of_all : (q : ℕ) (b : Bool) (e : Event) (h : List Event) → waits_of_after (λ n. true) q b e h ≡ tag_waits_after heading p tag q b e h
  of_all q b (Tlbi pe op xt) h = refl
  of_all q b (Dsb pe dsb) h = refl
  of_all q b e h = refl

  pub tag_step : (q : ℕ) (b : Bool) (e : Event) (h : List Event) → tag_waits heading p tag q b (e ∷ h)
      ≡ (tag_waits_after heading p tag q b e h && not (reads_for_some heading (e ∷ h) p tag))
  tag_step q b e h =
      waits_of_step (λ n. true) q b e h
      ∙ ap (λ (c : Bool). c && not (reads_for_some heading (e ∷ h) p tag)) (of_all q b e h)

  -- a TLBI that takes the tag, at the DSB that comes after h
  abbrev pub is_taken : ℕ → Barrier → List Event → Issued Event → Bool
  is_taken q dsb h t = ((completes dsb t.tlbi && reaches heading t.tlbi p) && takes_tag heading t.tlbi t.before tag)
      && not (read_since heading (length t.before) p tag (Dsb q dsb ∷ h))

  pub lost_of : (pos : ℕ → Bool) (q : ℕ) (dsb : Barrier) (h : List Event)
      → any (λ t. is_taken q dsb h t && pos (length t.before)) (unanswered itself q h)
      ≡ (answered_by dsb (λ b. waits_of pos q b h) && not (reads_for_some heading (Dsb q dsb ∷ h) p tag))
  lost_of pos q dsb h =
      same_unanswered q (λ t. is_taken q dsb h t && pos (length t.before))
      (λ t. (completes dsb t.tlbi && takes_of pos h t) && not (reads_for_some heading (Dsb q dsb ∷ h) p tag)) h
      (λ t less. proved 5 (λ a b c d o. Is ((((a && b) && c) && d) && o) (a && (o && ((b && c) && d)))) refl
      (completes dsb t.tlbi) (reaches heading t.tlbi p) (takes_tag heading t.tlbi t.before tag)
      (not (read_since heading (length t.before) p tag (Dsb q dsb ∷ h))) (pos (length t.before))
      ∙ (ap (λ (c : Bool). completes dsb t.tlbi && (pos (length t.before) && c)) (takes_on (Dsb q dsb) h t less)
      ∙ outwards (completes dsb t.tlbi) (pos (length t.before)) (takes heading p tag h t) (not (reads_for_some heading
      (Dsb q dsb ∷ h) p tag))))
      ∙ (any_both (λ t. completes dsb t.tlbi && takes_of pos h t) (not (reads_for_some heading (Dsb q dsb ∷ h) p tag))
      (unanswered itself q h)
      ∙ ap (λ (c : Bool). c && not (reads_for_some heading (Dsb q dsb ∷ h) p tag))
      (answered_kinds Event itself q dsb (takes_of pos h) h))

  pub tag_lost : (q : ℕ) (dsb : Barrier) (h : List Event) → loses heading Patterns p tag (Dsb q dsb) h
      ≡ (answered_by dsb (λ b. tag_waits heading p tag q b h) && not (reads_for_some heading (Dsb q dsb ∷ h) p tag))
  tag_lost q dsb h = lost_of (λ n. true) q dsb h
