-- What the places of a page hold when an event attaches it.
use Rattle.bbm_histories.proofs.Common.{Heading, Below, seen_after, Attaches}
use Rattle.bbm_rules.proofs.Common.{◌≡◌, ℕ, ◌<◌, Bool, true, false, cond, ◌==◌, List, [], ◌∷◌, ◌++◌, Option, Some, None}
use Rattle.bbm_rules.proofs.Common.{refl, sym, ◌∙◌, ap, subst, inl, inr, true≢false, eqb-true, is_valid, Event, Init}
use Rattle.bbm_rules.proofs.Common.{Write, Dsb, Trust, seen, note, ValidWrite, last_valid, Noted, events_of, is_fresh}
use Rattle.bbm_rules.proofs.Common.{page_of, IsLastValid, Node, held_at, value_of}
use Rattle.bbm_histories.specs.ValueChanges.{HoldsPresent}
use Rattle.bbm_histories.proofs.FreshLemmas.{content, held_is_present}
use Rattle.bbm_histories.proofs.HeldSteps.{held_back, held_valid}
use Rattle.bbm_histories.proofs.Invariants.{Invariants}
use Rattle.bbm_histories.proofs.PatternLemmas.{last_one_before}
use Rattle.bbm_histories.proofs.StepLemmas.{seen_step}
use Rattle.bbm_histories.proofs.TreeSteps.{attached_fresh, not_fresh_there}

module _ (heading : Heading) (trust : Trust) (b : Below heading trust) (h : List Noted) (i : Invariants heading trust h)
    (e : Event) (n : Node) (place : ℕ) (a : Attaches heading trust h e n) (inside : page_of place ≡ n.page) where
  pub fresh : is_fresh heading trust h (page_of place) ≡ true
  fresh = subst (λ (x : ℕ). is_fresh heading trust h x ≡ true) (sym inside) (attached_fresh heading trust b h i.odd i.one e n a)

  pub unwritten : (q v : ℕ) → e ≡ Write q place v → ⊥
  unwritten q v is =
      let l = subst (λ (x : Event). Attaches heading trust h x n) is a in
      let k = b.tree.taken h (page_of place) l.parent l.is_parent in
      not_fresh_there heading trust b h l.parent (page_of place) k.0 k.1 fresh

  no_init : (q : ℕ) → e ≡ Init q (page_of place) → ⊥
  no_init q is = subst (λ (x : Event). Attaches heading trust h x n) is a

  -- the event leaves the value of the place
  pub same_value : value_of (e ∷ events_of h) place ≡ value_of (events_of h) place
  same_value = by e refl
    where
      by : (x : Event) → e ≡ x → value_of (x ∷ events_of h) place ≡ value_of (events_of h) place
      by (Write q at v) change = go (at == place) refl
        where
          go : (c : Bool) → (at == place) ≡ c → cond c v (value_of (events_of h) place) ≡ value_of (events_of h) place
          go true c = absurd (unwritten q v (change ∙ ap (λ (x : ℕ). Write q x v) (eqb-true at place c)))
          go false c = refl
      by (Init q page) change = go (page == page_of place) refl
        where
          go : (c : Bool) → (page == page_of place) ≡ c → cond c 0 (value_of (events_of h) place) ≡ value_of (events_of h) place
          go true c = absurd (no_init q (change ∙ ap (Init q) (eqb-true page (page_of place) c)))
          go false c = refl
      by x change = refl

  abbrev now : List Noted
  now = note heading trust h e ∷ h

  holds : 0 < heading.pes → held_at heading trust now n place
      ≡ cond (is_valid n.kind n.level (value_of (e ∷ events_of h) place)) (Some (value_of (e ∷ events_of h) place)) None
  holds pes = by (is_valid n.kind n.level (value_of (e ∷ events_of h) place)) refl
    where
      nothing : (o : Option ℕ) → held_at heading trust now n place ≡ o
          → is_valid n.kind n.level (value_of (e ∷ events_of h) place) ≡ false → held_at heading trust now n place ≡ None
      nothing None k v = k
      nothing (Some value) k v =
          elim (held_back heading trust b n.kind n.level place (note heading trust h e) h value k) [
            | inl old ↦
                let present : value_of (e ∷ events_of h) place ≡ value
                = same_value ∙ held_is_present heading trust b n.kind n.level place h value (content heading trust b h i.odd) fresh old in
                absurd (true≢false (sym (held_valid heading trust b n.kind n.level place now value k)
                ∙ (ap (is_valid n.kind n.level) (sym present) ∙ v)))
            | inr w ↦ absurd (unwritten w.0 value w.1)
          ]

      by : (v : Bool) → is_valid n.kind n.level (value_of (e ∷ events_of h) place) ≡ v
          → held_at heading trust now n place ≡ cond v (Some (value_of (e ∷ events_of h) place)) None
      by true v = b.held.live n.kind n.level place now pes v
      by false v = nothing (held_at heading trust now n place) refl v

  -- it is no barrier, so it publishes nothing
  unseen : (w : ValidWrite) (p : ℕ) → last_valid n.kind n.level place now ≡ Some w → seen heading place p w.since ≡ false
  unseen w p last =
      let l : IsLastValid n.kind n.level place now w = b.last_valid.sound n.kind n.level place now w last in
      by w.since refl l
    where
      quiet : (since : List Noted) → seen heading place p since ≡ false
          → seen heading place p (note heading trust h e ∷ since) ≡ false
      quiet since s = go e refl
        where
          go : (x : Event) → e ≡ x → seen heading place p (note heading trust h e ∷ since) ≡ false
          go (Dsb q dsb) change = absurd (subst (λ (x : Event). Attaches heading trust h x n) change a)
          go x change =
              seen_step heading place p (note heading trust h e) since
              ∙ (ap (λ (y : Event). seen_after heading place p y since) change ∙ s)

      by : (since : List Noted) → w.since ≡ since → IsLastValid n.kind n.level place now w → seen heading place p w.since ≡ false
      by [] is l = ap (seen heading place p) is
      by (m ∷ since) is l =
          let split : note heading trust h e ∷ h ≡ (m ∷ since) ++ l.write ∷ l.older
          = l.split ∙ ap (λ (xs : List Noted). xs ++ l.write ∷ l.older) is in
          let first : note heading trust h e ≡ m = cc in
          let longer : w.since ≡ note heading trust h e ∷ since = is ∙ ap (λ (x : Noted). x ∷ since) (sym first) in
          let was : last_valid n.kind n.level place h ≡ Some (record { value = w.value; since = since })
          = last_one_before heading trust b n.kind n.level place (note heading trust h e) h since w.value
          (last ∙ ap (λ (xs : List Noted). Some (record { value = w.value; since = xs })) longer) in
          ap (seen heading place p) longer
          ∙ quiet since ((content heading trust b h i.odd n.kind n.level place (record { value = w.value; since = since }) fresh was).1 p)

  pub holds_present : 0 < heading.pes → HoldsPresent heading trust now n place
  holds_present pes = record { holds = holds pes; unseen = unseen }
