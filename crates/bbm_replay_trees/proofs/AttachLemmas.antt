-- The events that attach pages, and the writes that attach none.
use Rattle.bbm_rules.proofs.Common.{◌≡◌, ℕ, suc, ◌<◌, ◌⊎◌, not, Bool, true, false, cond, ◌||◌, List, [], ◌∷◌, ◌++◌}
use Rattle.bbm_rules.proofs.Common.{Option, Some, None, is_some, is_none, Contains, option_and_then, option_to_list}
use Rattle.bbm_rules.proofs.Common.{refl, sym, ◌∙◌, ap, inl, inr, arith, Kind, core_of, desc_of, Desc, Event, Root}
use Rattle.bbm_rules.proofs.Common.{Write, attached_by, attached_from, Patterns, if_so, least, Noted, page_of}
use Rattle.bbm_rules.proofs.Common.{root_pages, start_of, made_with, not_fresh, Node, held_at, next_of, node_below}
use Rattle.bbm_rules.proofs.Common.{node_of, nodes_of_root, from_contains, to_contains, subst}
use Rattle.bbm_lemmas.proofs.Words.{none_is}
use Rattle.bbm_events.specs.Heading.{Heading}
use Rattle.bbm_histories.specs.TreeChanges.{Proper}
use Rattle.bbm_replay_trees.specs.BelowTrees.{Below}
use Rattle.bbm_replay_trees.specs.Judging.{Judging}
use Rattle.bbm_replay_trees.specs.Told.{AllFit, SameFresh, SameNull, SameValues, notes}
use Rattle.bbm_replay_trees.proofs.PathLemmas.{Starts, judging, no_leaf}
use Rattle.bbm_rules.proofs.TreeLaw.{table_level}

-- the least of one number, where it is listed
one_if : (c : Bool) (p : ℕ) → least (cond c (p ∷ []) []) ≡ if_so c p
one_if true p = ap Some (omega arith)
one_if false p = refl

if_listed : (c : Bool) (p : ℕ) → least (option_to_list (if_so c p) ++ []) ≡ if_so c p
if_listed true p = ap Some (omega arith)
if_listed false p = refl

module _ (heading : Heading) (b : Below heading) (h : List Event) where
  abbrev marks : List Noted
  marks = notes heading h

  -- what holds no core holds nothing, and what holds nothing has no core
  pub core_some : (n : Node) (place : ℕ)
      → is_some (option_and_then (core_of n.kind n.level) (held_at heading Patterns marks n place))
      ≡ is_some (held_at heading Patterns marks n place)
  core_some n place = by (held_at heading Patterns marks n place) refl
    where
      by : (o : Option ℕ) → held_at heading Patterns marks n place ≡ o → is_some (option_and_then (core_of n.kind n.level) o) ≡ is_some o
      by None k = refl
      by (Some v) k = b.core_where_valid n.kind n.level v ∙ b.held.valid n.kind n.level place marks v k

  pub core_none : (n : Node) (place : ℕ) → option_and_then (core_of n.kind n.level) (held_at heading Patterns marks n place) ≡ None
      → held_at heading Patterns marks n place ≡ None
  core_none n place e = none_is (held_at heading Patterns marks n place) (sym (core_some n place) ∙ ap is_some e)

  -- ---- the starts

  pub root_starts : Proper heading → (kind : Kind) (page : ℕ) → Starts kind (start_of heading.world kind)
      (root_pages heading.world kind page) (nodes_of_root heading (record { page = page; kind = kind; lock = None }))
  root_starts proper kind page = record {
    of_start = λ s c. let f = b.root_pages.fields (record { page = page; kind = kind; lock = None }) s c in
        (f.0, f.1, f.4);
    to_start = b.root_pages.each (record { page = page; kind = kind; lock = None });
    shallow = proper.start kind;
  }

  pub write_starts : (n : Node) (place v next : ℕ) → next_of n.kind n.level v ≡ Some next
      → Starts n.kind (suc n.level) (next ∷ []) (node_below n place next ∷ [])
  write_starts n place v next table = record {
    of_start = λ s c. elim (from_contains (node_below n place next ∷ []) s c) [
      | inl same ↦
          subst (λ (x : Node). (x.kind ≡ n.kind) × (x.level ≡ suc n.level) × Contains (next ∷ []) x.page) same
          (refl, refl, to_contains (next ∷ []) next (inl refl))
      | inr i ↦ absurd i
    ];
    to_start = λ p c. elim (from_contains (next ∷ []) p c) [
      | inl same ↦
          (node_below n place next, to_contains (node_below n place next ∷ []) (node_below n place next) (inl refl), same)
      | inr i ↦ absurd i
    ];
    shallow = let level : n.level < 3 = table_level n.kind n.level v next table in omega arith;
  }

  -- ---- what attaches

  pub root_judging : AllFit heading h → (fresh : ℕ → Bool) (value : ℕ → ℕ) → SameFresh heading h fresh → SameValues h value
      → Proper heading → (pe page : ℕ) (kind : Kind) (lock : Option ℕ)
      → Judging fresh value (nodes_of_root heading (record { page = page; kind = kind; lock = None })) heading h true (Root pe kind lock page)
  root_judging fit fresh value same_fresh same_value proper pe page kind lock =
      judging heading b h fit fresh value same_fresh same_value kind (start_of heading.world kind) (root_pages heading.world kind page)
      (nodes_of_root heading (record { page = page; kind = kind; lock = None })) (root_starts proper kind page)
      (Root pe kind lock page) refl true refl refl (λ test leaves. refl)

  module _ (n : Node) (pe place v : ℕ) (node_is : node_of heading Patterns marks (page_of place) ≡ Some n) where
    pub write_judging : AllFit heading h → (fresh : ℕ → Bool) (value : ℕ → ℕ) → SameFresh heading h fresh → SameValues h value
        → (next : ℕ) → held_at heading Patterns marks n place ≡ None → next_of n.kind n.level v ≡ Some next
        → Judging fresh value (node_below n place next ∷ []) heading h false (Write pe place v)
    write_judging fit fresh value same_fresh same_value next empty table =
        judging heading b h fit fresh value same_fresh same_value n.kind (suc n.level) (next ∷ []) (node_below n place next ∷ [])
        (write_starts n place v next table) (Write pe place v) (rw (node_is, empty, table) refl) false refl (rw (node_is) refl)
        (λ test leaves. rw (node_is, no_leaf test leaves n.kind (desc_of n.kind n.level v) next table) refl)

    -- ---- what attaches nothing

    pub attaches_none : (is_some (held_at heading Patterns marks n place) ≡ true) ⊎ (next_of n.kind n.level v ≡ None)
        → attached_by heading Patterns marks (Write pe place v) ≡ None
    attaches_none cause = rw (node_is) (by (held_at heading Patterns marks n place) (next_of n.kind n.level v) cause)
      where
        by : (o next : Option ℕ) → (is_some o ≡ true) ⊎ (next ≡ None) → option_and_then (λ p.
            Some (attached_from heading Patterns marks n.kind (suc n.level) (p ∷ []))) (cond (is_none o) next None) ≡ None
        by o next cause = grind arith

    module _ (none : attached_by heading Patterns marks (Write pe place v) ≡ None) where
      pub not_fresh_none : not_fresh heading Patterns marks (Write pe place v) ≡ None
      not_fresh_none = rw (none, node_is) refl

      pub made_is : (test : Kind → Desc → Bool) → made_with heading Patterns marks test (Write pe place v)
          ≡ if_so (test n.kind (desc_of n.kind n.level v)) place
      made_is test = rw (none, node_is) (if_listed (test n.kind (desc_of n.kind n.level v)) place)

  -- ---- a write outside the trees

  module _ (pe place v : ℕ) (node_is : node_of heading Patterns marks (page_of place) ≡ None) where
    pub outside_none : attached_by heading Patterns marks (Write pe place v) ≡ None
    outside_none = rw (node_is) refl

    pub outside_fresh : (fresh null : ℕ → Bool) → SameFresh heading h fresh → SameNull h null
        → not_fresh heading Patterns marks (Write pe place v) ≡ if_so (not (fresh (page_of place) || null (page_of place))) (page_of place)
    outside_fresh fresh null same_fresh same_null =
        rw (node_is, ← same_fresh (page_of place), b.notes_keep_the_events h, ← same_null (page_of place))
        (one_if (not (fresh (page_of place) || null (page_of place))) (page_of place))

    pub outside_made : (test : Kind → Desc → Bool) → made_with heading Patterns marks test (Write pe place v) ≡ None
    outside_made test = rw (node_is) refl
