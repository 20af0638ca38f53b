-- What the bases of readable register values are.
use Rattle.bbm_histories.proofs.Common.{Heading, Kind, PageInUse, Below, Proper}
use Rattle.bbm_rules.proofs.Common.{◌≡◌, ℕ, ◌<◌, true, false, not, ◌==◌, List, [], ◌∷◌, Option, Some, refl, sym, ◌∙◌, subst}
use Rattle.bbm_rules.proofs.Common.{inl, inr, true≢false, Reg, Event, Root, Null, keeps, Trust, noted, among, is_fresh}
use Rattle.bbm_rules.proofs.Common.{is_null, base_of, kind_of_reg, register_values, is_root, eqb-true, not-false}
use Rattle.bbm_rules.proofs.Common.{or_cases, false_from_ne_true}
use Rattle.bbm_histories.specs.TagSteps.{BasesStay, NamesRoots}
use Rattle.bbm_histories.proofs.Induction.{Unbroken, is_of_trees, last_kept}
use Rattle.bbm_rules.proofs.RuleLemmas.{if_none}
use Rattle.bbm_histories.proofs.TagLemmas.{Named, named, noted_too, null_not_fresh, planted_fresh, root_back}
use Rattle.bbm_histories.proofs.TagLemmas.{root_not_fresh, root_on, unroot_misses}
use Rattle.bbm_lemmas.proofs.Bools.{first_none}

module _ (heading : Heading) (trust : Trust) (b : Below heading trust) where
  pub names_roots : Proper heading → (h : List Event) → keeps heading trust h ≡ true → NamesRoots heading h
  names_roots proper h kept p value base reg is_pe readable names =
      named heading trust b proper h kept p is_pe reg value base readable names

  -- no declared root is a page that a `root` may name
  pub new_root : Proper heading → (h : List Event) (pe page : ℕ) (kind other : Kind) (lock : Option ℕ)
      → keeps heading trust (Root pe kind lock page ∷ h) ≡ true → is_root h other page ≡ false
  new_root proper h pe page kind other lock kept = false_from_ne_true (is_root h other page) (λ k.
      let parts = last_kept heading trust b h (Root pe kind lock page) kept in
      let r = b.root.of_kind h other page k in
      root_not_fresh heading trust b proper h r.0 parts.0 r.1
      (subst (λ (x : ℕ). is_fresh heading trust (noted heading trust h) x ≡ true) (sym r.2)
      (planted_fresh heading trust b proper h pe kind lock page parts.1)))

  -- a null page is no declared root: the event that made the second of the two broke a rule
  null_on : Proper heading → (h : List Event) (e : Event) (kind : Kind) (page : ℕ) → keeps heading trust (e ∷ h) ≡ true
      → (is_null h page ≡ true → is_root h kind page ≡ false) → is_null h page ≡ true → is_root (e ∷ h) kind page ≡ true → ⊥
  null_on proper h e kind page kept before null root =
      let parts = last_kept heading trust b h e kept in
      elim (root_back heading trust b h e kind page root) [
        | inl old ↦ true≢false (sym old ∙ before null)
        | inr new ↦ true≢false (sym (planted_fresh heading trust b proper h new.0 kind new.1 page
            (subst (λ (x : Event). Unbroken heading trust (noted heading trust h) x) new.2 parts.1))
            ∙ null_not_fresh heading trust b h parts.0 page (noted_too heading trust b (λ (es : List Event). is_null es page ≡ true) h null))
      ]

  null_unfresh : Proper heading → (h : List Event) (pe page : ℕ) (kind : Kind) → keeps heading trust (Null pe page ∷ h) ≡ true
      → is_root h kind page ≡ true → ⊥
  null_unfresh proper h pe page kind kept root =
      let parts = last_kept heading trust b h (Null pe page) kept in
      let asked : is_of_trees PageInUse ≡ true = refl in
      let r = b.root.of_kind h kind page root in
      root_not_fresh heading trust b proper h r.0 parts.0 r.1
      (subst (λ (x : ℕ). is_fresh heading trust (noted heading trust h) x ≡ true) (sym r.2)
      (not-false (is_fresh heading trust (noted heading trust h) page)
      (first_none (not (is_fresh heading trust (noted heading trust h) page)) _
      (if_none _ page (parts.1 PageInUse asked)))))

  no_null_root : Proper heading → (h : List Event) → keeps heading trust h ≡ true → (kind : Kind) (page : ℕ)
      → is_null h page ≡ true → is_root h kind page ≡ true → ⊥
  no_null_root proper [] kept kind page null root = true≢false (sym null)
  no_null_root proper (Null pe at ∷ h) kept kind page null root =
      elim (or_cases (at == page) (is_null h page) null) [
        | inl here ↦ null_unfresh proper h pe at kind kept
            (subst (λ (x : ℕ). is_root h kind x ≡ true) (sym (eqb-true at page here)) root)
        | inr before ↦ no_null_root proper h (last_kept heading trust b h (Null pe at) kept).0 kind page before root
      ]
  no_null_root proper (e ∷ h) kept kind page null root =
      null_on proper h e kind page kept
      (λ before. false_from_ne_true (is_root h kind page) (no_null_root proper h (last_kept heading trust b h e kept).0 kind page before))
      null root

  pub null_root : Proper heading → (h : List Event) → keeps heading trust h ≡ true → (kind : Kind) (page : ℕ)
      → is_null h page ≡ true → is_root h kind page ≡ false
  null_root proper h kept kind page null = false_from_ne_true (is_root h kind page) (no_null_root proper h kept kind page null)

  -- what the base of a readable value is stays
  stays : Proper heading → (h : List Event) (e : Event) → keeps heading trust (e ∷ h) ≡ true → (p value base : ℕ) (reg : Reg) → p < heading.pes
      → among value (register_values h p reg) ≡ true → base_of value ≡ Some base → Named heading trust b h p reg base
      → is_root (e ∷ h) (kind_of_reg reg) base ≡ is_root h (kind_of_reg reg) base
  stays proper h e kept p value base reg is_pe readable names is =
      let parts = last_kept heading trust b h e kept in
      elim is [
        | inl root ↦ root_on heading trust b proper h e (kind_of_reg reg) base parts.0 parts.1
            (unroot_misses heading trust b h e p reg value base parts.1 is_pe readable names) root ∙ sym root
        | inr null ↦
            false_from_ne_true (is_root (e ∷ h) (kind_of_reg reg) base)
            (null_on proper h e (kind_of_reg reg) base kept (null_root proper h parts.0 (kind_of_reg reg) base) null)
            ∙ sym (null_root proper h parts.0 (kind_of_reg reg) base null)
      ]

  pub bases_stay : Proper heading → (h : List Event) (e : Event) → keeps heading trust (e ∷ h) ≡ true → BasesStay heading h e
  bases_stay proper h e kept p value base reg is_pe readable names =
      let parts = last_kept heading trust b h e kept in
      stays proper h e kept p value base reg is_pe readable names
      (names_roots proper h parts.0 p value base reg is_pe readable names)
