-- What the rules say of an event by its kind.
use Rattle.bbm_rules.proofs.Common.{◌≡◌, ℕ, ◌%◌, not, Bool, true, false, ◌&&◌, ◌||◌, ◌==◌, List, [], Option, Some, None}
use Rattle.bbm_rules.proofs.Common.{is_some, filter, option_and_then, sym, ◌∙◌, ap, subst, or_right, Kind, core_of}
use Rattle.bbm_rules.proofs.Common.{differ, is_valid, Core, Event, Init, Null, Root, Unroot, Write, first_broken, Trust}
use Rattle.bbm_rules.proofs.Common.{Patterns, noted, limit_of, any, if_so, least, events_of, is_fresh, page_of, lock_of}
use Rattle.bbm_rules.proofs.Common.{root_pages, break_before_make, lacks, limbo_make, no_lock, null_written}
use Rattle.bbm_rules.proofs.Common.{page_in_use, rewritten_fresh, Above, Node, held_at, in_limbo, node_of, places_in}
use Rattle.bbm_rules.proofs.Common.{value_of, In, any_finds, is_none_of, to_filter, arith, ne_eqb, refl}
use Rattle.std.proofs.lemmas.List.Elements.{filter_agree}
use Rattle.bbm_rules.proofs.RuleLemmas.{if_none}
use Rattle.bbm_events.specs.Heading.{Heading}
use Rattle.bbm_rules.specs.Broken.{broken}
use Rattle.bbm_replay_trees.specs.TreeEvents.{may_reach_limit, rules_of}
use Rattle.bbm_replay_trees.specs.Told.{AllFit, SameCores, SameFresh, SameNodes, SameNull, SameValues, is_at, limbo_by}
use Rattle.bbm_replay_trees.specs.Told.{notes}
use Rattle.bbm_rules.proofs.ListLemmas.{least_none}
use Rattle.bbm_replay_trees.proofs.FitLemmas.{at_place, to_place}
use Rattle.bbm_lemmas.proofs.Tests.{any_same}
use Rattle.std.proofs.lemmas.Bool.{true_from_ne_false}

pub few : (heading : Heading) (trust : Trust) (h : List Event) (e : Event)
    → broken heading trust h e ≡ first_broken heading trust (noted heading trust h) e (rules_of e)
unfolding broken
few heading trust h e = grind arith

pub no_limit : (h : List Event) (e : Event) → may_reach_limit e ≡ false → limit_of h e ≡ None
no_limit h e k = grind arith

module _ (heading : Heading) (h : List Event) (events : events_of (notes heading h) ≡ h) where
  -- ---- the values and null pages of the annotated history

  pub value_same : (value : ℕ → ℕ) → SameValues h value → (a : ℕ) → value_of (events_of (notes heading h)) a ≡ value a
  value_same value same a = ap (λ es. value_of es a) events ∙ sym (same a)

  pub limbo_same : (value : ℕ → ℕ) → SameValues h value → (n : Node) → in_limbo (notes heading h) n ≡ limbo_by value n
  limbo_same value same n =
      any_same (λ (a : Above). not (is_valid n.kind a.level (value_of (events_of (notes heading h)) a.place)))
      (λ (a : Above). not (is_valid n.kind a.level (value a.place))) n.above
      (λ a. ap (λ v. not (is_valid n.kind a.level v)) (value_same value same a.place))

  -- ---- a write

  pub null_rule : (null : ℕ → Bool) (pe place v : ℕ) → SameNull h null
      → null_written heading Patterns (notes heading h) (Write pe place v) ≡ if_so (null (page_of place)) place
  null_rule null pe place v same = rw (events, ← same (page_of place)) refl

  pub rewritten_rule : (fresh : ℕ → Bool) (value : ℕ → ℕ) (pe place v : ℕ) → SameFresh heading h fresh → SameValues h value
      → rewritten_fresh heading Patterns (notes heading h) (Write pe place v)
      ≡ if_so (fresh (page_of place) && value place % 2 == 1 && not (value place == v)) place
  rewritten_rule fresh value pe place v same_fresh same =
      rw (events, ← same_fresh (page_of place), ← same place) refl

  module _ (node : ℕ → Option Node) (same_node : SameNodes heading h node) (pe place v : ℕ) where
    pub node_at : (o : Option Node) → node (page_of place) ≡ o → node_of heading Patterns (notes heading h) (page_of place) ≡ o
    node_at o k = sym (same_node (page_of place)) ∙ k

    pub lock_rule : (n : Node) → node (page_of place) ≡ Some n → no_lock heading Patterns (notes heading h) (Write pe place v)
        ≡ option_and_then (λ lock. if_so (lacks h pe lock) place) (lock_of h n.root)
    lock_rule n k = rw (node_at (Some n) k, events) refl

    pub held_rule : (core : Kind → ℕ → ℕ → Option Core) → SameCores heading h core → (n : Node) → node (page_of place) ≡ Some n
        → break_before_make heading Patterns (notes heading h) (Write pe place v)
        ≡ if_so (differ (core n.kind n.level place) (core_of n.kind n.level v)) place
    held_rule core same n k =
        rw (node_at (Some n) k, same n place (node_at (Some n) k)) (by (held_at heading Patterns (notes heading h) n place))
      where
        by : (o : Option ℕ) → option_and_then (λ old. if_so (differ (core_of n.kind n.level old) (core_of n.kind n.level v)) place) o
            ≡ if_so (differ (option_and_then (core_of n.kind n.level) o) (core_of n.kind n.level v)) place
        by o = grind arith

    pub limbo_rule : (value : ℕ → ℕ) → SameValues h value → (n : Node) → node (page_of place) ≡ Some n
        → limbo_make heading Patterns (notes heading h) (Write pe place v)
        ≡ if_so (is_valid n.kind n.level v && limbo_by value n) place
    limbo_rule value same n k = rw (node_at (Some n) k, limbo_same value same n) refl

    pub outside_rules : node (page_of place) ≡ None
        → (no_lock heading Patterns (notes heading h) (Write pe place v) ≡ None)
        × (break_before_make heading Patterns (notes heading h) (Write pe place v) ≡ None)
        × (limbo_make heading Patterns (notes heading h) (Write pe place v) ≡ None)
    outside_rules k = (rw (node_at None k) refl, rw (node_at None k) refl, rw (node_at None k) refl)

  pub unroot_rule : (pe page : ℕ) → no_lock heading Patterns (notes heading h) (Unroot pe page)
      ≡ option_and_then (λ lock. if_so (lacks h pe lock) page) (lock_of h page)
  unroot_rule pe page = rw (events) refl

  -- ---- pages in use

  pub init_rule : (node : ℕ → Option Node) (null : ℕ → Bool) (pe page : ℕ) → SameNodes heading h node → SameNull h null
      → page_in_use heading Patterns (notes heading h) (Init pe page) ≡ if_so (is_some (node page) || null page) page
  init_rule node null pe page same_node same = rw (events, ← same_node page, ← same page) refl

  pub root_rule : (fresh : ℕ → Bool) (pe page : ℕ) (kind : Kind) (lock : Option ℕ) → SameFresh heading h fresh
      → page_in_use heading Patterns (notes heading h) (Root pe kind lock page)
      ≡ least (filter (λ p. not (fresh p)) (root_pages heading.world kind page))
  root_rule fresh pe page kind lock same =
      ap least (filter_agree (λ p. not (is_fresh heading Patterns (notes heading h) p)) (λ p. not (fresh p))
      (λ p. ap not (sym (same p))) (root_pages heading.world kind page))

  pub init_free : (node : ℕ → Option Node) (null : ℕ → Bool) (pe page : ℕ) → SameNodes heading h node → SameNull h null
      → page_in_use heading Patterns (notes heading h) (Init pe page) ≡ None → (node page ≡ None) × (null page ≡ false)
  init_free node null pe page same_node same none =
      let none : if_so (is_some (node page) || null page) page ≡ None
      = sym (init_rule node null pe page same_node same) ∙ none in grind (arith, if_none)

  pub root_fresh : (fresh : ℕ → Bool) (pe page : ℕ) (kind : Kind) (lock : Option ℕ) (p : ℕ) → SameFresh heading h fresh
      → page_in_use heading Patterns (notes heading h) (Root pe kind lock page) ≡ None
      → In (root_pages heading.world kind page) p → fresh p ≡ true
  root_fresh fresh pe page kind lock p same none i =
      let unfresh_none : filter (λ q. not (fresh q)) (root_pages heading.world kind page) ≡ []
      = least_none (filter (λ q. not (fresh q)) (root_pages heading.world kind page))
      (sym (root_rule fresh pe page kind lock same) ∙ none) in
      true_from_ne_false (fresh p) (λ k. subst (λ (xs : List ℕ). In xs p) unfresh_none
      (to_filter (λ q. not (fresh q)) (root_pages heading.world kind page) p i (ap not k)))

  -- whether some place of the page has a value other than 0
  abbrev is_used : ℕ → Bool
  is_used page = any (λ place. not (value_of (events_of (notes heading h)) place == 0)) (places_in (events_of (notes heading h)) page)

  pub null_unused : (fresh : ℕ → Bool) (value : ℕ → ℕ) (pe page : ℕ) → AllFit heading h → SameFresh heading h fresh
      → SameValues h value → fresh page ≡ true → ((a : ℕ) → is_at page a ≡ true → value a ≡ 0)
      → page_in_use heading Patterns (notes heading h) (Null pe page) ≡ None
  null_unused fresh value pe page fit same_fresh same is_fresh_page zeros =
      ap (λ b. if_so (not b || is_used page) page) (sym (same_fresh page) ∙ is_fresh_page)
      ∙ ap (λ b. if_so b page) (is_none_of (λ (a : ℕ). not (value_of (events_of (notes heading h)) a == 0))
      (places_in (events_of (notes heading h)) page)
      (λ a i. ap (λ x. not (x == 0)) (value_same value same a ∙ zeros a (at_place heading h events page a fit i))))

  pub null_unfresh : (fresh : ℕ → Bool) (pe page : ℕ) → SameFresh heading h fresh → fresh page ≡ false
      → page_in_use heading Patterns (notes heading h) (Null pe page) ≡ Some page
  null_unfresh fresh pe page same unfresh = rw (← same page, unfresh) refl

  pub null_used : (value : ℕ → ℕ) (pe page a : ℕ) → SameValues h value → is_at page a ≡ true → (value a ≡ 0 → ⊥)
      → page_in_use heading Patterns (notes heading h) (Null pe page) ≡ Some page
  null_used value pe page a same at other =
      ap (λ b. if_so b page) (or_right (not (is_fresh heading Patterns (notes heading h) page)) (is_used page)
      (any_finds (λ (x : ℕ). not (value_of (events_of (notes heading h)) x == 0)) (places_in (events_of (notes heading h)) page) a
      (to_place heading h events page a at (λ z. other (sym (value_same value same a) ∙ z)))
      (ap (λ x. not (x == 0)) (value_same value same a)
      ∙ ap not (ne_eqb (value a) 0 other))))
