-- The cores of what the places of trees hold after an event.
use Rattle.bbm_rules.proofs.Common.{◌≡◌, ℕ, ◌⊎◌, Bool, true, false, cond, ◌&&◌, ◌==◌, List, ◌∷◌, Option, Some, None}
use Rattle.bbm_rules.proofs.Common.{is_some, Contains, option_and_then, refl, sym, ◌∙◌, ap, inl, inr, true≢false}
use Rattle.bbm_rules.proofs.Common.{and_parts, eqb-true, Kind, core_of, is_valid, Core, Barrier, Event, Init, Write}
use Rattle.bbm_rules.proofs.Common.{Dsb, keeps, Patterns, note, held, Noted, events_of, is_fresh, page_of, Node}
use Rattle.bbm_rules.proofs.Common.{held_at, in_tree, node_of, value_of, false_from_ne_true, arith}
use Rattle.bbm_events.specs.Heading.{Heading}
use Rattle.bbm_histories.specs.HistorySteps.{held_after}
use Rattle.bbm_histories.specs.TreeChanges.{Attaches, HeldChange, Proper}
use Rattle.bbm_rules.specs.Tree.{tree}
use Rattle.bbm_replay_trees.specs.BelowTrees.{Below}
use Rattle.bbm_replay_trees.specs.Told.{SameCores, SameNodes, SameValues, core_after, notes}
use Rattle.bbm_replay_trees.proofs.NodeLemmas.{fresh_outside}
use Rattle.bbm_lemmas.proofs.Numbers.{same_swapped}

-- the core of a value that is valid where it has one, and that after a valid write
present : (f : ℕ → Option Core) (v : ℕ) (c : Bool) → is_some (f v) ≡ c → option_and_then f (cond c (Some v) None) ≡ f v
present f v c e = grind arith

after_valid : (f : ℕ → Option Core) (v : ℕ) (o : Option ℕ) (c : Bool)
    → cond c (f v) (option_and_then f o) ≡ option_and_then f (cond c (Some v) o)
after_valid f v o c = grind arith

module _ (heading : Heading) (b : Below heading) (h : List Event) where
  abbrev marks : List Noted
  marks = notes heading h

  -- at a place of a page that stays in a tree
  stays : (e : Event) → keeps heading Patterns (e ∷ h) ≡ true → ((q : ℕ) (dsb : Barrier) → e ≡ Dsb q dsb → ⊥) → (n : Node)
      (a : ℕ) → node_of heading Patterns marks (page_of a) ≡ Some n
      → core_after n e a (option_and_then (core_of n.kind n.level) (held heading Patterns n.kind n.level a marks))
      ≡ option_and_then (core_of n.kind n.level)
      (held_after heading Patterns n.kind n.level a e (note heading Patterns marks e) marks)
  stays (Write pe place v) kept no_dsb n a at =
      rw (same_swapped a place) (after_valid (core_of n.kind n.level) v (held heading Patterns n.kind n.level a marks)
      (place == a && is_valid n.kind n.level v))
  stays (Init pe page) kept no_dsb n a at =
      let other : (page == page_of a) ≡ false = false_from_ne_true (page == page_of a) (λ k.
      true≢false (sym (ap is_some at) ∙ (ap (in_tree heading Patterns marks) (sym (eqb-true page (page_of a) k))
      ∙ (b.one_position.no_init h pe page kept).0))) in
      rw other refl
  stays (Dsb pe dsb) kept no_dsb n a at = absurd (no_dsb pe dsb refl)
  stays e kept no_dsb n a at = refl

  -- a page of a tree after the event was in it before, or comes into it
  pub came : (e : Event) → keeps heading Patterns (e ∷ h) ≡ true → (n : Node) (a : ℕ)
      → node_of heading Patterns (notes heading (e ∷ h)) (page_of a) ≡ Some n
      → ((Contains (tree heading Patterns marks) n × (node_of heading Patterns marks (page_of a) ≡ Some n))
      ⊎ (Attaches heading Patterns marks e n × (is_fresh heading Patterns marks n.page ≡ true))) × (n.page ≡ page_of a)
  came e kept n a at =
      let taken = b.tree.taken (notes heading (e ∷ h)) (page_of a) n at in (
        elim (b.one_position.gained h e kept n taken.0) [
          | inl there ↦ inl (
            there,
            ap (node_of heading Patterns marks) (sym taken.1)
                ∙ b.one_node.the_first h (and_parts (keeps heading Patterns h) _ kept).0 n there,
          )
          | inr new ↦ inr new
        ],
        taken.1,
      )

  pub cores_step : (node next_node : ℕ → Option Node) (next_value : ℕ → ℕ) (core next_core : Kind → ℕ → ℕ → Option Core)
      (e : Event) → Proper heading → keeps heading Patterns (e ∷ h) ≡ true
      → ((q : ℕ) (dsb : Barrier) → e ≡ Dsb q dsb → ⊥) → SameNodes heading h node → SameNodes heading (e ∷ h) next_node
      → SameValues (e ∷ h) next_value → SameCores heading h core
      → ((n : Node) (a : ℕ) → next_node (page_of a) ≡ Some n → next_core n.kind n.level a
      ≡ cond (is_some (node (page_of a))) (core_after n e a (core n.kind n.level a)) (core_of n.kind n.level (next_value a)))
      → SameCores heading (e ∷ h) next_core
  cores_step node next_node next_value core next_core e proper kept no_dsb same next_same values cores is n a at =
      let taken = came e kept n a at in
      is n a (next_same (page_of a) ∙ at) ∙ elim taken.0 [
        | inl there ↦
            ap (λ (o : Option Node). cond (is_some o) (core_after n e a (core n.kind n.level a)) (core_of n.kind n.level (next_value a)))
            (same (page_of a) ∙ there.1)
            ∙ (ap (core_after n e a) (cores n a there.1)
            ∙ (stays e kept no_dsb n a there.1
            ∙ ap (option_and_then (core_of n.kind n.level))
            (sym (b.held_step n.kind n.level a (note heading Patterns marks e) marks proper.some_pe))))
        | inr new ↦
            (let none : node (page_of a) ≡ None
            = same (page_of a) ∙ fresh_outside heading marks (page_of a) (ap (is_fresh heading Patterns marks) (sym taken.1) ∙ new.1) in
            let holds = (b.fresh_content.attached h e proper.some_pe kept n a new.0 (sym taken.1)).holds in
            let value : value_of (events_of (notes heading (e ∷ h))) a ≡ next_value a
            = ap (λ es. value_of es a) (b.notes_keep_the_events (e ∷ h)) ∙ sym (values a) in
            ap (λ (o : Option Node). cond (is_some o) (core_after n e a (core n.kind n.level a)) (core_of n.kind n.level (next_value a))) none
            ∙ (sym (present (core_of n.kind n.level) (next_value a) (is_valid n.kind n.level (next_value a))
            (b.core_where_valid n.kind n.level (next_value a)))
            ∙ (ap (λ (v : ℕ). option_and_then (core_of n.kind n.level) (cond (is_valid n.kind n.level v) (Some v) None)) (sym value)
            ∙ ap (option_and_then (core_of n.kind n.level)) (sym holds))))
      ]

  pub cores_dsb : (next_node : ℕ → Option Node) (core next_core : Kind → ℕ → ℕ → Option Core) (pe : ℕ) (dsb : Barrier)
      → Proper heading → keeps heading Patterns (Dsb pe dsb ∷ h) ≡ true → SameNodes heading (Dsb pe dsb ∷ h) next_node
      → SameCores heading h core
      → ((n : Node) (a : ℕ) → next_node (page_of a) ≡ Some n → next_core n.kind n.level a
      ≡ cond (is_some (held_at heading Patterns (notes heading (Dsb pe dsb ∷ h)) n a)) (core n.kind n.level a) None)
      → SameCores heading (Dsb pe dsb ∷ h) next_core
  cores_dsb next_node core next_core pe dsb proper kept next_same cores is n a at =
      let taken = came (Dsb pe dsb) kept n a at in
      is n a (next_same (page_of a) ∙ at) ∙ elim taken.0 [
        | inl there ↦
            change (held_at heading Patterns marks n a) (held_at heading Patterns (notes heading (Dsb pe dsb ∷ h)) n a)
            (b.held_changes.changes h (Dsb pe dsb) proper.some_pe kept n a there.0 (sym taken.1)) (cores n a there.1)
        | inr new ↦ absurd new.0
      ]
    where
      change : (before after : Option ℕ) → HeldChange n.kind n.level a (Dsb pe dsb) before after
          → core n.kind n.level a ≡ option_and_then (core_of n.kind n.level) before
          → cond (is_some after) (core n.kind n.level a) None ≡ option_and_then (core_of n.kind n.level) after
      change before None k l = refl
      change before (Some v) (inl same) l = l ∙ ap (option_and_then (core_of n.kind n.level)) (sym same)
      change before (Some v) (inr (inl w)) l = let apart : Dsb pe dsb ≡ Write w.0 a w.1 = w.2 in cc
      change before (Some v) (inr (inr d)) l = let none : Some v ≡ None = d.3 in cc
