-- In a fresh page a value with bit 0 set stays, so what a place holds there is its present value.
use Rattle.bbm_histories.proofs.Common.{Heading, Event, Init, Write, Holds, Below, NoInit, OddStays}
use Rattle.bbm_rules.proofs.Common.{◌≡◌, ℕ, ◌%◌, ◌&&◌, ◌||◌, not, Bool, true, false, cond, ◌==◌, List, [], ◌∷◌, ◌++◌}
use Rattle.bbm_rules.proofs.Common.{Some, refl, sym, ◌∙◌, ap, subst, true≢false, and_parts, eq-eqb, eqb-true, not-true}
use Rattle.bbm_rules.proofs.Common.{proved, If, Is, Kind, is_valid, Trust, seen, note, noted, ValidWrite, held}
use Rattle.bbm_rules.proofs.Common.{last_valid, Noted, events_of, is_fresh, may_be_fresh, IsLastValid, page_of, in_tree}
use Rattle.bbm_rules.proofs.Common.{value_of}
use Rattle.bbm_events.specs.declared.event.Event.TheVariants.{Null}
use Rattle.bbm_rules.specs.declared.rule.Rule.TheVariants.{RewrittenFresh}
use Rattle.bbm_histories.specs.ValueChanges.{FreshContent}
use Rattle.bbm_histories.proofs.Induction.{At, Unbroken, event_at, events_append}
use Rattle.bbm_rules.proofs.RuleLemmas.{if_none}
use Rattle.bbm_histories.proofs.PatternLemmas.{unseen}

-- a page that stays fresh was fresh before, unless the event is its init
pub was_fresh : (e : Event) (page : ℕ) (before : Bool) → ((q : ℕ) → e ≡ Init q page → ⊥) → may_be_fresh e page before ≡ true
    → before ≡ true
was_fresh (Init pe at) page before other k = by (at == page) refl k
  where
    by : (b : Bool) → (at == page) ≡ b → (b || before) ≡ true → before ≡ true
    by true here k = absurd (other pe (ap (Init pe) (eqb-true at page here)))
    by false there k = k
was_fresh (Null pe at) page before other k = (and_parts (not (at == page)) before k).1
was_fresh e page before other k = k

-- a fresh page is in no tree
pub fresh_is_outside : (heading : Heading) (trust : Trust) (h : List Noted) (page : ℕ) → is_fresh heading trust h page ≡ true
    → in_tree heading trust h page ≡ false
fresh_is_outside heading trust [] page k = absurd (true≢false (sym k))
fresh_is_outside heading trust (n ∷ h) page k =
    not-true (in_tree heading trust (n ∷ h) page)
    (and_parts (may_be_fresh n.event page (is_fresh heading trust h page)) (not (in_tree heading trust (n ∷ h) page)) k).1

-- a page of a tree isn't fresh until its next init
pub unfresh : (heading : Heading) (trust : Trust) (newer h : List Event) (page : ℕ)
    → in_tree heading trust (noted heading trust h) page ≡ true → NoInit page newer
    → is_fresh heading trust (noted heading trust (newer ++ h)) page ≡ false
unfresh heading trust [] h page tracked none = by (is_fresh heading trust (noted heading trust h) page) refl
  where
    by : (c : Bool) → is_fresh heading trust (noted heading trust h) page ≡ c → c ≡ false
    by false f = refl
    by true f = absurd (true≢false (sym tracked ∙ fresh_is_outside heading trust (noted heading trust h) page f))
unfresh heading trust (e ∷ newer) h page tracked none =
    by (is_fresh heading trust (noted heading trust (e ∷ newer ++ h)) page) refl
    (unfresh heading trust newer h page tracked (λ q after before s. none q (e ∷ after) before (ap (λ (xs : List Event). e ∷ xs) s)))
  where
    by : (c : Bool) → is_fresh heading trust (noted heading trust (e ∷ newer ++ h)) page ≡ c
        → is_fresh heading trust (noted heading trust (newer ++ h)) page ≡ false → c ≡ false
    by false f before = refl
    by true f before =
        let was : is_fresh heading trust (noted heading trust (newer ++ h)) page ≡ true
        = was_fresh e page (is_fresh heading trust (noted heading trust (newer ++ h)) page)
        (λ q is. none q [] newer (ap (λ (x : Event). x ∷ newer) is))
        (and_parts (may_be_fresh e page (is_fresh heading trust (noted heading trust (newer ++ h)) page))
        (not (in_tree heading trust (noted heading trust (e ∷ newer ++ h)) page)) f).0 in
        absurd (true≢false (sym was ∙ before))

module _ (heading : Heading) (trust : Trust) where
  -- the rule on fresh pages, for a write at a place with bit 0 set
  same_value : (h : List Noted) (pe at value : ℕ) → Unbroken heading trust h (Write pe at value)
      → is_fresh heading trust h (page_of at) ≡ true → value_of (events_of h) at % 2 ≡ 1 → value_of (events_of h) at ≡ value
  same_value h pe at value kept fresh odd =
      eqb-true (value_of (events_of h) at) value
      (proved 3 (λ a b c. If (Is a true) (If (Is b true) (If (Is (a && b && not c) false) (Is c true)))) refl
      (is_fresh heading trust h (page_of at)) (value_of (events_of h) at % 2 == 1) (value_of (events_of h)
      at == value)
      fresh (eq-eqb (value_of (events_of h) at % 2) 1 odd)
      (if_none (is_fresh heading trust h (page_of at) && value_of (events_of h) at % 2 == 1
      && not (value_of (events_of h) at == value)) at (kept RewrittenFresh refl)))

  kept_value : (h : List Noted) (e : Event) (place value : ℕ) → Unbroken heading trust h e
      → ((q : ℕ) → e ≡ Init q (page_of place) → ⊥) → is_fresh heading trust h (page_of place) ≡ true
      → value_of (events_of h) place ≡ value → value % 2 ≡ 1 → value_of (e ∷ events_of h) place ≡ value
  kept_value h (Write pe at v) place value kept no_init fresh present odd = by (at == place) refl
    where
      by : (b : Bool) → (at == place) ≡ b → cond b v (value_of (events_of h) place) ≡ value
      by true here =
          let same : at ≡ place = eqb-true at place here in
          let there : value_of (events_of h) at ≡ value = ap (value_of (events_of h)) same ∙ present in
          sym (same_value h pe at v kept (subst (λ (x : ℕ). is_fresh heading trust h (page_of x) ≡ true) (sym same) fresh)
          (ap (λ (x : ℕ). x % 2) there ∙ odd)) ∙ there
      by false other = present
  kept_value h (Init pe at) place value kept no_init fresh present odd = by (at == page_of place) refl
    where
      by : (b : Bool) → (at == page_of place) ≡ b → cond b 0 (value_of (events_of h) place) ≡ value
      by true here = absurd (no_init pe (ap (Init pe) (eqb-true at (page_of place) here)))
      by false other = present
  kept_value h e place value kept no_init fresh present odd = present

  written_value : (hs : List Event) (q place value : ℕ) → value_of (Write q place value ∷ hs) place ≡ value
  written_value hs q place value =
      ap (λ (b : Bool). cond b value (value_of hs place)) (eq-eqb place place refl)

  pub odd_step : (h : List Noted) (e : Event) → Unbroken heading trust h e → OddStays heading trust h
      → OddStays heading trust (note heading trust h e ∷ h)
  odd_step h e kept before q place value [] older fresh split no_init odd =
      let first : e ≡ Write q place value = cc in
      subst (λ (x : Event). value_of (x ∷ events_of h) place ≡ value) (sym first) (written_value (events_of h) q place value)
  odd_step h e kept before q place value (y ∷ newer) older fresh split no_init odd =
      let first : e ≡ y = cc in
      let rest : events_of h ≡ newer ++ Write q place value ∷ older = cc in
      let other : (p : ℕ) → e ≡ Init p (page_of place) → ⊥
      = λ p is. no_init p [] newer (ap (λ (x : Event). x ∷ newer) (sym first ∙ is)) in
      let was : is_fresh heading trust h (page_of place) ≡ true
      = was_fresh e (page_of place) (is_fresh heading trust h (page_of place)) other
      (and_parts (may_be_fresh e (page_of place) (is_fresh heading trust h (page_of place)))
      (not (in_tree heading trust (note heading trust h e ∷ h) (page_of place))) fresh).0 in
      kept_value h e place value kept other was
      (before q place value newer older was rest
      (λ p after older' k. no_init p (y ∷ after) older' (ap (λ (xs : List Event). y ∷ xs) k)) odd) odd

  module _ (b : Below heading trust) where
    -- the init of a split of the events is that of a split of the notes
    no_init_of : (since : List Noted) (page : ℕ)
        → ((q : ℕ) (n : Noted) (after before : List Noted) → since ≡ after ++ n ∷ before → n.event ≡ Init q page → ⊥)
        → NoInit page (events_of since)
    no_init_of since page none q after before split =
        let a : At since (Init q page) = event_at since after before (Init q page) split in
        none q a.item a.newer a.older a.split a.is

    pub content : (h : List Noted) → OddStays heading trust h → FreshContent heading trust h
    content h odd kind level place w fresh last =
        let l : IsLastValid kind level place h w = b.last_valid.sound kind level place h w last in
        let split : events_of h ≡ events_of w.since ++ Write l.pe place w.value ∷ events_of l.older =
        ap events_of l.split ∙ (events_append w.since (l.write ∷ l.older)
        ∙ ap (λ (x : Event). events_of w.since ++ x ∷ events_of l.older) l.wrote) in
        let present : value_of (events_of h) place ≡ w.value =
        odd l.pe place w.value (events_of w.since) (events_of l.older) fresh split
        (no_init_of w.since (page_of place) l.no_init) (b.last_valid.odd kind level w.value l.valid) in
        let live = b.last_valid.live kind level place h
        (subst (λ (x : ℕ). is_valid kind level x ≡ true) (sym present) l.valid) in
        let both : Some live.0 ≡ Some w = sym live.1 ∙ last in
        let same : live.0 ≡ w = cc in (
          present,
          λ p. subst (λ (x : ValidWrite). seen heading place p x.since ≡ false) same
              (unseen heading trust b place p live.0.since live.3),
        )

    -- what is held is the last valid write's
    pub holds_last : (kind : Kind) (level place : ℕ) (h : List Noted) (value : ℕ) → held heading trust kind level place h ≡ Some value
        → (w : ValidWrite) × (last_valid kind level place h ≡ Some w) × (w.value ≡ value)
    holds_last kind level place h value e =
        let k : Holds heading trust kind level place h value = b.held.sound kind level place h value e in
        let w : ValidWrite = record { value = value; since = k.since } in (
          w,
          b.last_valid.complete kind level place h w k.last_write,
          refl,
        )

    -- what a place of a fresh page holds is its present value
    pub held_is_present : (kind : Kind) (level place : ℕ) (h : List Noted) (value : ℕ) → FreshContent heading trust h
        → is_fresh heading trust h (page_of place) ≡ true → held heading trust kind level place h ≡ Some value
        → value_of (events_of h) place ≡ value
    held_is_present kind level place h value content fresh e =
        let w = holds_last kind level place h value e in
        (content kind level place w.0 fresh w.1).0 ∙ w.2
