-- What is published, answered and covered stays so; what is readable after an event was so before, or the event made it so.
use Rattle.bbm_histories.proofs.Common.{Heading, Event, Init, Write, Dsb, Published, Readable, Below, MakesReadable}
use Rattle.bbm_rules.proofs.Common.{◌≡◌, ℕ, ◌⊎◌, Bool, true, false, cond, ◌==◌, List, [], ◌∷◌, ◌++◌, refl, sym, ◌∙◌, ap}
use Rattle.bbm_rules.proofs.Common.{inl, inr, eqb-true, or_parts, Trust, page_of, is_readable, published, value_of}
use Rattle.bbm_rules.specs.Values.{publishes_for}
use Rattle.bbm_histories.proofs.Induction.{none_split}
use Rattle.bbm_histories.proofs.PatternLemmas.{later_split}

module _ (heading : Heading) (trust : Trust) (b : Below heading trust) where
  pub published_stays : (q p : ℕ) (newer later : List Event) → published heading q p later ≡ true
      → published heading q p (newer ++ later) ≡ true
  published_stays q p newer later k =
      let s : Published heading q p later = b.published.sound q p later k in
      b.published.complete q p (newer ++ later) (record {
        dsb = s.dsb;
        after = newer ++ s.after;
        before = s.before;
        split = later_split newer later s.after s.before (Dsb q s.dsb) s.split;
        publishes = s.publishes;
      })

  -- a value that the place has after the event
  value_back : (e : Event) (h : List Event) (place p value : ℕ) → value_of (e ∷ h) place ≡ value
      → MakesReadable place value e ⊎ (value_of h place ≡ value)
  value_back (Write q at v) h place p value e = by (at == place) refl e
    where
      by : (c : Bool) → (at == place) ≡ c → cond c v (value_of h place) ≡ value
          → MakesReadable place value (Write q at v) ⊎ (value_of h place ≡ value)
      by true c k = inl (inl (q, ap (λ (x : ℕ). Write q x v) (eqb-true at place c) ∙ ap (Write q place) k))
      by false c k = inr k
  value_back (Init q page) h place p value e = by (page == page_of place) refl e
    where
      by : (c : Bool) → (page == page_of place) ≡ c → cond c 0 (value_of h place) ≡ value
          → MakesReadable place value (Init q page) ⊎ (value_of h place ≡ value)
      by true c k = inl (inr (q, ap (Init q) (eqb-true page (page_of place) c), sym k))
      by false c k = inr k
  value_back e h place p value k = inr k

  pub readable_back : (e : Event) (h : List Event) (place p value : ℕ) → is_readable heading (e ∷ h) place p value ≡ true
      → MakesReadable place value e ⊎ (is_readable heading h place p value ≡ true)
  readable_back e h place p value k = by r.newer refl r.split
    where
      r : Readable heading (e ∷ h) place p value
      r = b.readable_value.sound (e ∷ h) place p value k

      by : (newer : List Event) → r.newer ≡ newer → e ∷ h ≡ newer ++ r.older
          → MakesReadable place value e ⊎ (is_readable heading h place p value ≡ true)
      by [] is split =
          elim (value_back e h place p value (ap (λ (es : List Event). value_of es place) split ∙ r.had)) [
            | inl made ↦ inl made
            | inr old ↦ inr (b.readable_value.complete h place p value (record {
              newer = [];
              older = h;
              split = refl;
              had = old;
              no_init = λ q after before s. none_split after before (Init q (page_of place)) s;
              unreplaced = λ q w after before s. absurd (none_split after before (Write q place w) s);
            }))
          ]
      by (y ∷ newer) is split = inr (b.readable_value.complete h place p value (record {
        newer = newer;
        older = r.older;
        split = cc;
        had = r.had;
        no_init = λ q after before s. r.no_init q (y ∷ after) before (is ∙ ap (λ (xs : List Event). y ∷ xs) s);
        unreplaced = λ q w after before s.
            (or_parts (publishes_for heading q p y) (published heading q p after)
            (r.unreplaced q w (y ∷ after) before (is ∙ ap (λ (xs : List Event). y ∷ xs) s))).1;
      }))

  pub stays_unreadable : (e : Event) (h : List Event) (place p value : ℕ) → is_readable heading (e ∷ h) place p value ≡ true
      → (MakesReadable place value e → ⊥) → is_readable heading h place p value ≡ true
  stays_unreadable e h place p value k none =
      elim (readable_back e h place p value k) [ inl made ↦ absurd (none made) | inr old ↦ old ]
