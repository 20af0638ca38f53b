-- Which pages are fresh after an event that breaks no rule.
use Rattle.bbm_histories.proofs.Common.{Heading, Below, Attaches, InTree, Proper}
use Rattle.bbm_rules.proofs.Common.{◌≡◌, ℕ, ◌&&◌, not, ◌⊎◌, Bool, true, false, List, ◌∷◌, Option, Some, None, is_some}
use Rattle.bbm_rules.proofs.Common.{refl, sym, ◌∙◌, ap, subst, inl, inr, true≢false, Event, Trust, note, Noted}
use Rattle.bbm_rules.proofs.Common.{is_fresh, may_be_fresh, Node, in_tree, node_of}
use Rattle.bbm_histories.proofs.FreshLemmas.{fresh_is_outside, was_fresh}
use Rattle.bbm_histories.proofs.HeldSteps.{init_outside}
use Rattle.bbm_histories.proofs.Induction.{Unbroken}
use Rattle.bbm_histories.proofs.Invariants.{Invariants}
use Rattle.bbm_histories.proofs.NodeSteps.{node_attached}
use Rattle.bbm_histories.proofs.TreeSteps.{added, is_tracked}

module _ (heading : Heading) (trust : Trust) (b : Below heading trust) (h : List Noted) (i : Invariants heading trust h)
    (e : Event) (kept : Unbroken heading trust h e) where
  abbrev now : List Noted
  now = note heading trust h e ∷ h

  pub attached_unfresh : Proper heading → (m : Node) → Attaches heading trust h e m → is_fresh heading trust now m.page ≡ false
  attached_unfresh proper m a = by (is_fresh heading trust now m.page) refl
    where
      by : (c : Bool) → is_fresh heading trust now m.page ≡ c → c ≡ false
      by false k = refl
      by true k =
          absurd (true≢false (sym (ap is_some (node_attached heading trust b h i proper e kept m a))
          ∙ fresh_is_outside heading trust now m.page k))

  -- a page that may be fresh was in no tree
  was_outside : (page : ℕ) → may_be_fresh e page (is_fresh heading trust h page) ≡ true → in_tree heading trust h page ≡ true → ⊥
  was_outside page may there =
      true≢false (sym there ∙ fresh_is_outside heading trust h page
      (was_fresh e page (is_fresh heading trust h page)
      (λ q is. true≢false (sym there
      ∙ (init_outside heading trust h q page (subst (λ (x : Event). Unbroken heading trust h x) is kept)).0)) may))

  pub fresh_after : (page : ℕ) → ((m : Node) → Attaches heading trust h e m → m.page ≡ page → ⊥)
      → is_fresh heading trust now page ≡ may_be_fresh e page (is_fresh heading trust h page)
  fresh_after page none = by (may_be_fresh e page (is_fresh heading trust h page)) refl
    where
      old : (m : Node) → m.page ≡ page → InTree heading trust h m ⊎ Attaches heading trust h e m → in_tree heading trust h page ≡ true
      old m in_page (inl t) = is_tracked heading trust b h m page t in_page
      old m in_page (inr a) = absurd (none m a in_page)

      outside : may_be_fresh e page (is_fresh heading trust h page) ≡ true → (o : Option Node) → node_of heading trust now page ≡ o
          → not (is_some o) ≡ true
      outside may None k = refl
      outside may (Some m) k =
          let t = b.tree.taken now page m k in
          absurd (was_outside page may (old m t.1 (added heading trust b h i.odd i.one e m kept t.0)))

      by : (c : Bool) → may_be_fresh e page (is_fresh heading trust h page) ≡ c → (c && not (in_tree heading trust now page)) ≡ c
      by false k = refl
      by true k = outside k (node_of heading trust now page) refl
