-- Whether a table is childless after an event.
use Rattle.bbm_histories.proofs.Common.{Heading, Below, held_after}
use Rattle.bbm_rules.proofs.Common.{◌≡◌, ℕ, suc, ◌<◌, ◌&&◌, Bool, true, false, cond, ◌==◌, List, ◌∷◌, Option, Some}
use Rattle.bbm_rules.proofs.Common.{None, is_some, refl, sym, ◌∙◌, ap, inl, inr, true≢false, eq-eqb, eqb-true, is_valid}
use Rattle.bbm_rules.proofs.Common.{Event, Init, Write, Dsb, Trust, held, Noted, page_of, Node, is_childless, next_of}
use Rattle.bbm_rules.proofs.Common.{Childless}
use Rattle.bbm_histories.specs.TreeSteps.{EndsAll, HoldsNone, childless_after}
use Rattle.bbm_histories.proofs.HeldSteps.{IsDsb, held_after_dsb}
use Rattle.bbm_histories.proofs.StepLemmas.{held_step}

module _ (heading : Heading) (trust : Trust) (b : Below heading trust) (m : Node) (value next : ℕ)
    (table : next_of m.kind m.level value ≡ Some next) where
  -- what a place of the next page holds
  abbrev held_below : List Noted → ℕ → Option ℕ
  held_below h place = held heading trust m.kind (suc m.level) place h

  pub to_none : (h : List Noted) → is_childless heading trust h m value ≡ true
      → HoldsNone heading trust m.kind (suc m.level) next h
  to_none h k place inside =
      let c : Childless heading trust h m value = b.childless.sound h m value k in
      let both : Some next ≡ Some c.next = sym table ∙ c.table in
      let same : next ≡ c.next = cc in c.holds_none place (inside ∙ same)

  pub from_none : (h : List Noted) → HoldsNone heading trust m.kind (suc m.level) next h
      → is_childless heading trust h m value ≡ true
  from_none h none = b.childless.complete h m value (record { next = next; table = table; holds_none = none })

  -- a history where what was held in the page is held still, and nothing else
  as_before : (n : Noted) (h : List Noted) → ((place : ℕ) → page_of place ≡ next → held_below (n ∷ h) place ≡ held_below h place)
      → is_childless heading trust (n ∷ h) m value ≡ is_childless heading trust h m value
  as_before n h same = by (is_childless heading trust h m value) (is_childless heading trust (n ∷ h) m value) refl refl
    where
      by : (c d : Bool) → is_childless heading trust h m value ≡ c → is_childless heading trust (n ∷ h) m value ≡ d
          → d ≡ c
      by true d k l =
          sym l ∙ from_none (n ∷ h) (λ place inside. same place inside ∙ to_none h k place inside)
      by false false k l = refl
      by false true k l =
          absurd (true≢false (sym (from_none h (λ place inside. sym (same place inside) ∙ to_none (n ∷ h) l place inside)) ∙ k))

  -- one place that holds something
  not_childless : (h : List Noted) (place v : ℕ) → page_of place ≡ next → held_below h place ≡ Some v
      → is_childless heading trust h m value ≡ false
  not_childless h place v inside holds = by (is_childless heading trust h m value) refl
    where
      by : (c : Bool) → is_childless heading trust h m value ≡ c → c ≡ false
      by false k = refl
      by true k = let apart : None ≡ Some v = sym (to_none h k place inside) ∙ holds in cc

  module _ (pes : 0 < heading.pes) where
    held_by : (place : ℕ) (n : Noted) (h : List Noted) (e : Event) → n.event ≡ e
        → held_below (n ∷ h) place ≡ held_after heading trust m.kind (suc m.level) place e n h
    held_by place n h e change =
        held_step heading trust b m.kind (suc m.level) place pes n h
        ∙ ap (λ (x : Event). held_after heading trust m.kind (suc m.level) place x n h) change

    pub after : (n : Noted) (h : List Noted) (e : Event) → n.event ≡ e → (IsDsb e → ⊥)
        → is_childless heading trust (n ∷ h) m value
        ≡ childless_after m.kind (suc m.level) next e (is_childless heading trust h m value)
    after n h (Write pe at v) change other = by (page_of at == next) (is_valid m.kind (suc m.level) v) refl refl
      where
        by : (c d : Bool) → (page_of at == next) ≡ c → is_valid m.kind (suc m.level) v ≡ d
            → is_childless heading trust (n ∷ h) m value ≡ cond (c && d) false (is_childless heading trust h m value)
        by true true c d =
            not_childless (n ∷ h) at v (eqb-true (page_of at) next c)
            (held_by at n h (Write pe at v) change
            ∙ (ap (λ (x : Bool). cond (x && is_valid m.kind (suc m.level) v) (Some v) (held_below h at)) (eq-eqb at at refl)
            ∙ ap (λ (x : Bool). cond x (Some v) (held_below h at)) d))
        by true false c d =
            as_before n h (λ place inside. held_by place n h (Write pe at v) change
            ∙ (ap (λ (x : Bool). cond ((at == place) && x) (Some v) (held_below h place)) d ∙ go place (at == place)))
          where
            go : (place : ℕ) (x : Bool) → cond (x && false) (Some v) (held_below h place) ≡ held_below h place
            go place true = refl
            go place false = refl
        by false d c k = as_before n h (λ place inside. held_by place n h (Write pe at v) change ∙ go place inside (at == place) refl)
          where
            go : (place : ℕ) → page_of place ≡ next → (x : Bool) → (at == place) ≡ x
                → cond (x && is_valid m.kind (suc m.level) v) (Some v) (held_below h place) ≡ held_below h place
            go place inside true here =
                absurd (true≢false (sym (eq-eqb (page_of at) next (ap page_of (eqb-true at place here) ∙ inside)) ∙ c))
            go place inside false there = refl
    after n h (Init pe page) change other = by (page == next) refl
      where
        by : (c : Bool) → (page == next) ≡ c
            → is_childless heading trust (n ∷ h) m value ≡ cond c true (is_childless heading trust h m value)
        by true c = from_none (n ∷ h) (λ place inside. held_by place n h (Init pe page) change
            ∙ ap (λ (x : Bool). cond x None (held_below h place))
            (eq-eqb page (page_of place) (eqb-true page next c ∙ sym inside)))
        by false c = as_before n h (λ place inside. held_by place n h (Init pe page) change
            ∙ ap (λ (x : Bool). cond x None (held_below h place)) (ap (λ (x : ℕ). page == x) inside ∙ c))
    after n h (Dsb pe dsb) change other = absurd (other (pe, dsb, refl))
    after n h e change other = as_before n h (λ place inside. held_by place n h e change)

  -- ---- a DSB

  pub ends_all : (n : Noted) (h : List Noted) → is_childless heading trust (n ∷ h) m value ≡ true
      → EndsAll heading trust m.kind (suc m.level) next n h
  ends_all n h k place inside some = to_none (n ∷ h) k place inside

  pub all_ended : (n : Noted) (h : List Noted) → IsDsb n.event → EndsAll heading trust m.kind (suc m.level) next n h
      → is_childless heading trust (n ∷ h) m value ≡ true
  all_ended n h dsb ends = from_none (n ∷ h) (λ place inside. by place inside (held_below h place) refl)
    where
      by : (place : ℕ) → page_of place ≡ next → (o : Option ℕ) → held_below h place ≡ o → held_below (n ∷ h) place ≡ None
      by place inside (Some v) k = ends place inside (ap is_some k)
      by place inside None k =
          elim (held_after_dsb heading trust b m.kind (suc m.level) place n h dsb) [ inl same ↦ same ∙ k | inr none ↦ none ]

-- what is no table
pub no_table : (heading : Heading) (trust : Trust) (h : List Noted) (m : Node) (value : ℕ) → next_of m.kind m.level value ≡ None
    → is_childless heading trust h m value ≡ false
no_table heading trust h m value none = rw (none) refl
