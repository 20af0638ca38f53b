-- A write at a place of a tree, at the parts.
use Rattle.bbm_replay.proofs.Common.{node_in, broken, marks_at, pends_at, value_at, SameTracked, fresh_in}
use Rattle.bbm_replay.proofs.Common.{Judging, Written, WritesAs, waits, IsIdle, Pends, EntryState, same_kind, NoLock}
use Rattle.bbm_replay.proofs.Common.{BreakBeforeMake, LimboMake, NotFresh, BadKind, GlobalUser, Broken, limbo_by, Path}
use Rattle.bbm_replay.proofs.Common.{PlaceMap, TreeIndex, state_at, Roots, View, notes, Laws, attached_next}
use Rattle.bbm_replay.proofs.Common.{is_contiguous_core, is_global_core, step_fault, TreeFault, Rules, Admitted}
use Rattle.bbm_replay.proofs.Common.{core_in, Kind, WritesTree, IsAt, Links, IsUnlocked, MayAdmit, Meets, PartsStand}
use Rattle.bbm_replay.proofs.Common.{view_of, Told, state_of, ReplayState, Admits, StepFault, TableMapped}
use Rattle.bbm_replay.proofs.Common.{kept_next}
use Rattle.std.specs.Prelude.{IfSome}
use Rattle.bbm_rules.proofs.Common.{◌≡◌, ℕ, ◌<◌, ◌%◌, Bool, true, false, not, ◌&&◌, ◌⊎◌, ◌==◌, List, ◌∷◌, Option, Some}
use Rattle.bbm_rules.proofs.Common.{None, is_none, is_some, option_and_then, Result, Ok, Err, refl, sym, ◌∙◌, ap, subst}
use Rattle.bbm_rules.proofs.Common.{option_map_or, core_of, desc_of, differ, Core, Desc, rewrites, attached_by}
use Rattle.bbm_rules.proofs.Common.{Patterns, is_global, if_so, page_of, Ttbr0, Heading, Event, Write, lock_of}
use Rattle.bbm_rules.proofs.Common.{bad_kind, break_before_make, global_user, is_contiguous, lacks, limbo_make, no_lock}
use Rattle.bbm_rules.proofs.Common.{not_fresh, null_written, rewritten_fresh, Node, held_at, next_in, next_of, node_of}
use Rattle.bbm_rules.proofs.Common.{and-false, and-true, and_right, if_so, Breach, arith, false_from_ne_true}
use Rattle.bbm_rules.proofs.Common.{fits_heading, limit_of}
use Rattle.bbm_rules.proofs.TreeLaw.{table_level}
use Rattle.bbm_rules.specs.Answers.{is_written}
use Rattle.bbm_replay_trees.specs.Told.{core_at}
use Rattle.bbm_descriptor.specs.Descriptor as descriptor
use Rattle.bbm_roots.specs.RootChanges as root_changes
use Rattle.bbm_roots.specs.RootsStand as roots
use Rattle.bbm_tree_index.specs.Attaching as index
use Rattle.bbm_tree_index.specs.IndexChanges as changes
use Rattle.bbm_tree_index.specs.Paths as index_paths
use Rattle.bbm_tree_index.specs.declared.role.Attach.TheVariants as attach
use Rattle.bbm_replay.proofs.Moves.{Attaches, Writes, tracked_alike}
use Rattle.bbm_place_map.specs.Map.{pages_of}
use Rattle.std.proofs.Common.{length}
use Rattle.bbm_rules.specs.Mapped.{maps}
use Rattle.bbm_rules.specs.Rules.{table_mapped}
use Rattle.bbm_tree_index.specs.Attaching.{Never}
use Rattle.bbm_tree_index.specs.LeastPages.{LeastOf}
use Rattle.bbm_tree_index.specs.Outputs.{CoversAttached}
use Rattle.bbm_replay_trees.specs.Guarding.{Guards}
use Rattle.bbm_replay.specs.Guarded.{Becomes, CoversListed, CoversValue, Guarded, IsAttached, IsBad, IsOver, JudgesLeaf}
use Rattle.bbm_replay.specs.Guarded.{Passes, Refuses}
use Rattle.bbm_unmapped.specs.Unmapped.{free_in, may_map}
use Rattle.bbm_tree_index.specs.declared.standing.AttachedPage.{AttachedPage}
use Rattle.bbm_unmapped.specs.declared.unmapped.Unmapped.{Unmapped}
use Rattle.bbm_replay.proofs.Guarding.{covers_nothing, guard_attached, guard_covered, if_kept, maps_none, never_over}
use Rattle.bbm_replay.proofs.Guarding.{passes, refuses, word_of}
use Rattle.bbm_replay.proofs.Framing.{meets_err, meets_ok, meets_broken}
use Rattle.bbm_replay.proofs.Judging.{all_pass, earlier_kept, found, refused, write_is}
use Rattle.bbm_replay.proofs.Rooting.{attaches_of}
use Rattle.bbm_replay.proofs.Writing.{after_attaching_write, after_plain_write, cores}
use Rattle.bbm_lemmas.proofs.Words.{none_is}
use Rattle.bbm_replay.proofs.Ways.{state_core}

-- ---- what the core of a descriptor says

contiguous_is : (kind : Kind) (d : Desc) → is_contiguous kind d ≡ is_contiguous_core (descriptor.core_in d)
contiguous_is kind d = grind arith

global_is : (d : Desc) → is_global d ≡ is_global_core (descriptor.core_in d)
global_is d = grind arith

attaches_none : (held : Option Core) (d : Desc) → attached_next held (descriptor.core_in d) ≡ None
    → (is_some held ≡ true) ⊎ (next_in d ≡ None)
attaches_none held d k = grind arith

attaches_next : (held : Option Core) (d : Desc) (next : ℕ) → attached_next held (descriptor.core_in d) ≡ Some next
    → (held ≡ None) × (next_in d ≡ Some next)
attaches_next held d next k = grind arith

-- ---- the rule on locks

module _ (rules : (heading : Heading) → Rules heading) {old : ReplayState} {pe place v : ℕ} {path : Path}
    (tree : WritesTree old pe place v path) {x : ℕ} (same : x ≡ place) {lock : Option ℕ}
    (lock_is : (heading : Heading) (h : List Event) → roots.Stands old.roots heading h
    → lock ≡ option_and_then (λ l. if_so (lacks h pe l) x) (lock_of h path.first)) where
  no_lock_is : (heading : Heading) (h : List Event) → PartsStand old heading h
      → no_lock heading Patterns (notes heading h) (Write pe place v) ≡ lock
  no_lock_is heading h s =
      (rules heading).writes.lock h (view_of old.map old.index) tree.at.0 pe place v s.told.nodes tree.at.1
      ∙ ap (λ (p : Path). option_and_then (λ l. if_so (lacks h pe l) place) (lock_of h p.first)) (sym tree.at.2)
      ∙ ap (λ (a : ℕ). option_and_then (λ l. if_so (lacks h pe l) a) (lock_of h path.first)) (sym same)
      ∙ sym (lock_is heading h s.roots)

  pub locked : (a : ℕ) → lock ≡ Some a → Meets old old (Write pe place v) (Err (Broken NoLock a))
  locked a k = meets_broken old (Write pe place v) NoLock a (λ heading h s.
      rw (write_is (rules heading) h pe place v, no_lock_is heading h s, k) refl)

  pub unlocked : lock ≡ None → IsUnlocked old (Write pe place v)
  unlocked k heading h s = no_lock_is heading h s ∙ k

-- ---- the other rules, and what is taken

-- what is asked of a write, by the core of the value before
pub may_admit : {old : ReplayState} {pe place v : ℕ} {path : Path} → WritesTree old pe place v path
    → IsUnlocked old (Write pe place v) → (live held new : Option Core)
    → live ≡ core_of path.kind path.level (value_at old.map place) → held ≡ core_in (state_at old.map live place)
    → new ≡ core_of path.kind path.level v → MayAdmit old pe place v path held new
may_admit {old = old} {place = place} tree unlocked live held new live_is held_is core_is = record {
  tree = tree;
  unlocked = unlocked;
  holds = held_is ∙ ap (λ (x : Option Core). core_in (state_at old.map x place)) live_is;
  core_is = core_is;
}

module _ (laws : (heading : Heading) → Laws heading) (rules : (heading : Heading) → Rules heading)
    {old : ReplayState} {pe place v : ℕ} {path : Path} {held new : Option Core}
    (m : MayAdmit old pe place v path held new) where
  abbrev e : Event
  e = Write pe place v

  abbrev at : IsAt old place path
  at = m.tree.at

  abbrev n : Node
  n = at.0

  abbrev v_old : View
  v_old = view_of old.map old.index

  held_n : held ≡ core_at v_old n.kind n.level place
  held_n = m.holds ∙ state_core path.kind path.level (value_at old.map place) (marks_at old.map place)
      ∙ ap (λ (x : Path). core_at v_old x.kind x.level place) at.2

  new_n : new ≡ core_of n.kind n.level v
  new_n = m.core_is ∙ ap (λ (x : Path). core_of x.kind x.level v) at.2

  -- what it attaches, in the words of the rules
  none_attached : attached_next held new ≡ None
      → (is_some (core_at v_old n.kind n.level place) ≡ true) ⊎ (next_of n.kind n.level v ≡ None)
  none_attached k = subst (λ (x : Option Core). (is_some x ≡ true) ⊎ (next_of n.kind n.level v ≡ None)) held_n
      (attaches_none held (desc_of n.kind n.level v) (ap (λ (x : Option Core). attached_next held x) (sym new_n) ∙ k))

  one_attached : (next : ℕ) → attached_next held new ≡ Some next
      → (core_at v_old n.kind n.level place ≡ None) × (next_of n.kind n.level v ≡ Some next)
  one_attached next k =
      let both = attaches_next held (desc_of n.kind n.level v) next
      (ap (λ (x : Option Core). attached_next held x) (sym new_n) ∙ k) in
      (sym held_n ∙ both.0, both.1)

  pub below_three : (next : ℕ) → attached_next held new ≡ Some next → n.level < 3
  below_three next k = table_level n.kind n.level v next (one_attached next k).1

  abbrev in_limbo : Bool
  in_limbo = is_some new && option_map_or (limbo_by (value_at old.map)) (node_in old.index (page_of place)) false

  module _ (heading : Heading) (h : List Event) (s : PartsStand old heading h) where
    null_none : null_written heading Patterns (notes heading h) e ≡ None
    null_none = (rules heading).writes.null h v_old pe place v s.told.null
        ∙ ap (λ b. if_so b place) (s.told.apart.node_not_null (page_of place) n at.1)

    rewritten_none : rewritten_fresh heading Patterns (notes heading h) e ≡ None
    rewritten_none = (rules heading).writes.rewritten h v_old pe place v s.told.fresh s.told.values
        ∙ ap (λ b. if_so (b && value_at old.map place % 2 == 1 && not (value_at old.map place == v)) place)
        (false_from_ne_true (fresh_in old.index (page_of place)) (λ k.
        let both : Some n ≡ None = sym at.1 ∙ s.told.apart.fresh_outside (page_of place) k in absurd cc))

    -- the rules on the page that is attached, or on the leaf
    abbrev last : Option Breach
    last = found NotFresh (not_fresh heading Patterns (notes heading h) e)
        (found BadKind (bad_kind heading Patterns (notes heading h) e)
        (found GlobalUser (global_user heading Patterns (notes heading h) e)
        (found TableMapped (table_mapped heading Patterns (notes heading h) e) None)))

    bbm_is : break_before_make heading Patterns (notes heading h) e ≡ if_so (differ held new) place
    bbm_is = (rules heading).writes.held h v_old n pe place v s.told.nodes (cores s.told) at.1
        ∙ ap (λ (x : Option Core). if_so (differ x (core_of n.kind n.level v)) place) (sym held_n)
        ∙ ap (λ (x : Option Core). if_so (differ held x) place) (sym new_n)

    limbo_is : limbo_make heading Patterns (notes heading h) e ≡ if_so in_limbo place
    limbo_is = (rules heading).writes.limbo h v_old n pe place v s.told.nodes s.told.values at.1
        ∙ ap (λ b. if_so (b && limbo_by (value_at old.map) n) place)
        (sym ((laws heading).core_where_valid n.kind n.level v) ∙ ap (λ (x : Option Core). is_some x) (sym new_n))
        ∙ ap (λ (o : Option Node). if_so (is_some new && option_map_or (limbo_by (value_at old.map)) o false) place)
        (sym at.1)

    -- the least broken rule is the first of these
    write_breaks : broken heading Patterns h e
        ≡ found BreakBeforeMake (if_so (differ held new) place) (found LimboMake (if_so in_limbo place) last)
    write_breaks = rw (write_is (rules heading) h pe place v, m.unlocked heading h s, null_none)
        (rw (bbm_is, limbo_is, rewritten_none) refl)

  -- so it is broken where the value differs from what the place holds
  pub differs : differ held new ≡ true → Meets old old e (Err (Broken BreakBeforeMake place))
  differs k = meets_broken old e BreakBeforeMake place (λ heading h s. rw (write_breaks heading h s, k) refl)

  module _ (alike : differ held new ≡ false) where
    pub makes_limbo : in_limbo ≡ true → Meets old old e (Err (Broken LimboMake place))
    makes_limbo k = meets_broken old e LimboMake place (λ heading h s. rw (write_breaks heading h s, alike, k) refl)

    module _ (above : in_limbo ≡ false) where
      left : (heading : Heading) (h : List Event) (s : PartsStand old heading h)
          → broken heading Patterns h e ≡ last heading h s
      left heading h s = rw (write_breaks heading h s, alike, above) refl

      -- ---- it attaches nothing

      module _ (none : attached_next held new ≡ None) where
        module _ (heading : Heading) (h : List Event) (s : PartsStand old heading h) where
          unattached : attached_by heading Patterns (notes heading h) e ≡ None
          unattached = (laws heading).unattached.attaches_none h v_old n pe place v s.told.nodes
              (cores s.told) at.1 (none_attached none)

          leaves : (not_fresh heading Patterns (notes heading h) e ≡ None)
              × (bad_kind heading Patterns (notes heading h) e
              ≡ if_so (is_contiguous n.kind (desc_of n.kind n.level v)) place)
              × (global_user heading Patterns (notes heading h) e
              ≡ if_so (same_kind n.kind Ttbr0 && is_global (desc_of n.kind n.level v)) place)
          leaves = (rules heading).unattached.inside h v_old n pe place v s.told.nodes at.1 unattached

          bad_is : bad_kind heading Patterns (notes heading h) e ≡ if_so (is_contiguous_core new) place
          bad_is = leaves.1 ∙ ap (λ b. if_so b place) (contiguous_is n.kind (desc_of n.kind n.level v))
              ∙ ap (λ (x : Option Core). if_so (is_contiguous_core x) place) (sym new_n)

          user_is : global_user heading Patterns (notes heading h) e
              ≡ if_so (same_kind path.kind Ttbr0 && is_global_core new) place
          user_is = leaves.2
              ∙ ap (λ b. if_so (same_kind n.kind Ttbr0 && b) place) (global_is (desc_of n.kind n.level v))
              ∙ ap (λ (x : Option Core). if_so (same_kind n.kind Ttbr0 && is_global_core x) place) (sym new_n)
              ∙ ap (λ (x : Path). if_so (same_kind x.kind Ttbr0 && is_global_core new) place) (sym at.2)

          -- the rules on the leaf
          leaf : broken heading Patterns h e ≡ found BadKind (if_so (is_contiguous_core new) place)
              (found GlobalUser (if_so (same_kind path.kind Ttbr0 && is_global_core new) place)
              (found TableMapped (table_mapped heading Patterns (notes heading h) e) None))
          leaf = rw (left heading h s, leaves.0, bad_is, user_is) refl

        pub contiguous : is_contiguous_core new ≡ true → Meets old old e (Err (Broken BadKind place))
        contiguous k = meets_broken old e BadKind place (λ heading h s. rw (leaf heading h s, k) refl)

        module _ (good : is_contiguous_core new ≡ false) where
          pub user_global : (same_kind path.kind Ttbr0 && is_global_core new) ≡ true
              → Meets old old e (Err (Broken GlobalUser place))
          user_global k = meets_broken old e GlobalUser place (λ heading h s. rw (leaf heading h s, good, k) refl)

          module _ (bound : (same_kind path.kind Ttbr0 && is_global_core new) ≡ false) where
            -- the rule on table pages is left
            table_left : (heading : Heading) (h : List Event) (s : PartsStand old heading h)
                → broken heading Patterns h e
                ≡ found TableMapped (table_mapped heading Patterns (notes heading h) e) None
            table_left heading h s = rw (leaf heading h s, good, bound) refl

            -- what it says where something is kept, and where not
            over : (heading : Heading) (h : List Event) (s : PartsStand old heading h) (o : Option ℕ)
                → heading.words.isolated ≡ true → LeastOf (IsOver n.kind n.level place v old.index) o
                → table_mapped heading Patterns (notes heading h) e ≡ o
            over heading h s o word least =
                (rules heading).tables.write h v_old n pe place v o word s.told.nodes at.1 (unattached heading h s)
                least

            nothing_over : (heading : Heading) (h : List Event) (s : PartsStand old heading h) (kept : Option Unmapped)
                → IfSome kept (λ u. Never (IsOver n.kind n.level place v old.index)) → Guarded kept old.index heading h
                → table_mapped heading Patterns (notes heading h) e ≡ None
            nothing_over heading h s None k g = (rules heading).tables.off h e g
            nothing_over heading h s (Some u) k g = over heading h s None g.0 k

            -- it is kept, and what its value maps is covered
            covered : (kept : Option Unmapped)
                → IfSome old.unmapped (λ u. Never (IsOver n.kind n.level place v old.index))
                → Becomes (CoversValue n.kind n.level place v) old.unmapped kept
                → Admitted old (record old { unmapped = kept }) pe place v (attached_next held new)
            covered kept k covers = record {
              kept = unbroken;
              frame = record { header = refl; index_header = refl; numbers = λ n. n };
              same_map = refl;
              same_roots = refl;
              links = subst (λ (o : Option ℕ). Links old.map place o old.index old.index) (sym none) refl;
              guarded = λ heading h s. guard_covered heading h (e ∷ h) old.index n.kind n.level place v
                  (λ free free' may may' c guards. (laws heading).guards.write h v_old n pe place v free free' may may'
                  ((laws heading).proper s.told.proper)
                  (kept_next heading Patterns h e s.told.kept (unbroken heading h s)) s.told.nodes at.1
                  (unattached heading h s) c guards) old.unmapped kept covers s.guarded;
            }
              where
                unbroken : (heading : Heading) (h : List Event) → PartsStand old heading h
                    → broken heading Patterns h e ≡ None
                unbroken heading h s =
                    table_left heading h s ∙ ap (λ o. found TableMapped o None)
                    (nothing_over heading h s old.unmapped k s.guarded)

            -- a value that maps nothing
            pub admitted : (is_some new && is_some old.unmapped) ≡ false
                → Admitted old old pe place v (attached_next held new)
            admitted k = by old.unmapped refl
              where
                by : (kept : Option Unmapped) → old.unmapped ≡ kept
                    → Admitted old old pe place v (attached_next held new)
                by None is = covered old.unmapped
                    (subst (λ (x : Option Unmapped). IfSome x (λ u. Never (IsOver n.kind n.level place v old.index)))
                    (sym is) tt)
                    (subst (λ (x : Option Unmapped). Becomes (CoversValue n.kind n.level place v) x x) (sym is) refl)
                by (Some u) is =
                    let invalid : is_some new ≡ false
                    = sym (and-true (is_some new)) ∙ ap (λ (x : Option Unmapped). is_some new && is_some x) (sym is)
                    ∙ k in
                    let none : (page : ℕ) → maps n.kind n.level v page ≡ false
                    = λ page. maps_none n.kind n.level v page (sym new_n ∙ none_is new invalid) in
                    covered old.unmapped (if_kept old.unmapped (Never (IsOver n.kind n.level place v old.index))
                    (never_over n.kind n.level place v old.index none))
                    (covers_nothing n.kind n.level place v none old.unmapped)

            -- the answer to what its value maps
            pub judged_leaf : (kept : Option Unmapped) (result : Result (Unit {0}) StepFault)
                → JudgesLeaf path.kind path.level place v old.index old.unmapped kept result
                → Admits old (record old { unmapped = kept }) pe place v (attached_next held new) result
            judged_leaf kept result k = by result
                (subst (λ (x : Path). JudgesLeaf x.kind x.level place v old.index old.unmapped kept result) at.2 k)
              where
                by : (r : Result (Unit {0}) StepFault) → JudgesLeaf n.kind n.level place v old.index old.unmapped kept r
                    → Admits old (record old { unmapped = kept }) pe place v (attached_next held new) r
                by (Ok done) j = covered kept j.0 j.1
                by (Err (Broken TableMapped page)) j = record {
                  judged = λ heading h s. rw (
                    table_left heading h s,
                    over heading h s (Some page) (word_of old.unmapped old.index heading h j.0 s.guarded) j.2,
                  ) refl;
                  taken = tt;
                  unchanged = λ heading h s.
                      subst (λ (x : Option Unmapped). PartsStand (record old { unmapped = x }) heading h) (sym j.1) s;
                  frugal = tt;
                }
                by (Err fault) j = absurd j

      -- ---- it attaches the next page

      module _ (next : ℕ) (one : attached_next held new ≡ Some next) where
        abbrev starts_here : List Node
        starts_here = index_paths.starts_of old.index (attach.Below place next)

        abbrev JudgesHere : Result (Unit {0}) TreeFault → Type 0
        JudgesHere r = index.Judges (fresh_in old.index) (value_at old.map) starts_here false r

        judging : (heading : Heading) (h : List Event) → PartsStand old heading h → Judging (fresh_in old.index)
            (value_at old.map) starts_here heading h false e
        judging heading h s =
            subst (λ (o : Option Node). Judging (fresh_in old.index) (value_at old.map) (index_paths.below_all o place next)
            heading h false e) (sym at.1) ((rules heading).judging.write h v_old n pe place v next
            s.told.fit s.told.nodes s.told.fresh s.told.values (cores s.told) at.1
            (one_attached next one).0 (one_attached next one).1)

        -- so it may take memory
        attaching : (heading : Heading) (h : List Event) → PartsStand old heading h → rewrites heading h e ≡ false
        attaching heading h s =
            let node_is : node_of heading Patterns (notes heading h) (page_of place) ≡ Some n
            = sym (s.told.nodes (page_of place)) ∙ at.1 in
            let held_none : held_at heading Patterns (notes heading h) n place ≡ None
            = none_is (held_at heading Patterns (notes heading h) n place)
            ((laws heading).holds.holds h n.kind n.level place _ _ (s.told.entries n place at.1)
            ∙ ap (λ (x : Option Core). is_some x)
            (state_core n.kind n.level (value_at old.map place) (marks_at old.map place) ∙ (one_attached next one).0)) in
            let attaches : is_none (attached_by heading Patterns (notes heading h) e) ≡ false
            = rw (node_is, held_none, (one_attached next one).1) refl in
            and_right (is_written h place) _ attaches

        pub attach_fault : (fault : TreeFault) → JudgesHere (Err fault) → Meets old old e (Err (step_fault fault))
        attach_fault fault k = meets_err e (step_fault fault)
            (λ heading h s. refused (judging heading h s)
            (found TableMapped (table_mapped heading Patterns (notes heading h) e) None) (limit_of h e)
            (left heading h s) fault k) (λ heading h s. s) (λ heading h s. (refl, attaching heading h s))

        module _ (fine : JudgesHere (Ok tt)) where
          module _ (heading : Heading) (h : List Event) (s : PartsStand old heading h) where
            tables_left : broken heading Patterns h e
                ≡ found TableMapped (table_mapped heading Patterns (notes heading h) e) None
            tables_left =
                let pass = all_pass (judging heading h s) fine in rw (left heading h s, pass.0, pass.1, pass.2) refl

            judged : (u : Unmapped) (o : Option ℕ) → heading.words.isolated ≡ true
                → Guards heading h (free_in u) (may_map u) → LeastOf (IsBad old.index old.map starts_here u) o
                → table_mapped heading Patterns (notes heading h) e ≡ o
            judged u o word guards least =
                (rules heading).tables.attaching h v_old n pe place v next (free_in u) (may_map u) o word
                ((laws heading).proper s.told.proper) s.told.fit s.told.kept
                (earlier_kept (rules heading) h e _ refl refl tables_left) s.told.nodes s.told.fresh
                s.told.values (cores s.told) at.1 (one_attached next one).0 (one_attached next one).1 guards
                (subst (λ (x : Option Node). LeastOf (IsBad old.index old.map (index_paths.below_all x place next) u) o)
                at.1 least)

          pub attach_bad : (fault : StepFault) → Refuses old.index old.map starts_here old.unmapped fault
              → Meets old old e (Err fault)
          attach_bad fault refused = meets_err e fault (λ heading h s.
              refuses heading h e old.index old.map starts_here ((rules heading).tables.off h e) (judged heading h s)
              old.unmapped fault (limit_of h e) refused s.guarded (tables_left heading h s))
              (λ heading h s. s) (λ heading h s. (refl, attaching heading h s))

          pub attach_ok : (pages : List AttachedPage) → Passes old.index old.map starts_here old.unmapped pages
              → (index' : TreeIndex) (kept : Option Unmapped) → SameTracked old.index index'
              → changes.Attaches (value_at old.map) (attach.Below place next) old.index index'
              → Becomes (CoversListed old.map pages) old.unmapped kept
              → Admitted old (record old { index = index'; unmapped = kept }) pe place v (Some next)
          attach_ok pages pass index' kept tracked attached covers = record {
            kept = unbroken;
            frame = record { header = refl; index_header = tracked.heading; numbers = λ n. n ∙ sym tracked.pages };
            same_map = refl;
            same_roots = refl;
            links = (attached, tracked);
            guarded = λ heading h s. guard_attached heading h (e ∷ h) old.index index' old.map starts_here tracked.pages
                (λ u u' c guards. (laws heading).guards.attaching h v_old n pe place v next (free_in u) (free_in u')
                (may_map u) (may_map u') ((laws heading).proper s.told.proper) s.told.fit
                (kept_next heading Patterns h e s.told.kept (unbroken heading h s)) s.told.nodes s.told.fresh
                s.told.values (cores s.told) at.1 (one_attached next one).0 (one_attached next one).1
                (subst (λ (x : Option Node).
                CoversAttached (IsAttached old.index old.map (index_paths.below_all x place next)) (value_at old.map)
                (free_in u) (free_in u') (may_map u) (may_map u')) at.1 c) guards)
                old.unmapped kept pages pass covers s.guarded;
          }
            where
              unbroken : (heading : Heading) (h : List Event) → PartsStand old heading h
                  → broken heading Patterns h e ≡ None
              unbroken heading h s =
                  tables_left heading h s ∙ ap (λ o. found TableMapped o None)
                  (passes heading h e old.index old.map starts_here ((rules heading).tables.off h e)
                  (judged heading h s) old.unmapped pages pass s.guarded)

  -- ---- an invalid value

  -- it attaches nothing and breaks no rule behind the one on locks
  pub admitted_invalid : new ≡ None → Admitted old old pe place v (attached_next held new)
  admitted_invalid k =
      admitted (ap (λ (x : Option Core). differ held x) k ∙ differ_none held) (ap limbo k)
      (ap (λ (x : Option Core). attached_next held x) k ∙ attached_none held)
      (ap (λ (x : Option Core). is_contiguous_core x) k)
      (ap (λ (x : Option Core). same_kind path.kind Ttbr0 && is_global_core x) k
      ∙ and-false (same_kind path.kind Ttbr0))
      (ap (λ (x : Option Core). is_some x && is_some old.unmapped) k)
    where
      limbo : Option Core → Bool
      limbo x = is_some x && option_map_or (limbo_by (value_at old.map)) (node_in old.index (page_of place)) false

      differ_none : (o : Option Core) → differ o None ≡ false
      differ_none None = refl
      differ_none (Some core) = refl

      attached_none : (o : Option Core) → attached_next o None ≡ None
      attached_none None = refl
      attached_none (Some core) = refl

  -- ---- the value is written

  module _ (others : root_changes.OthersStand) (mid : ReplayState)
      (done : Admitted old mid pe place v (attached_next held new))
      (map : PlaceMap) (live : Option Core) (live_is : live ≡ core_of path.kind path.level (value_at old.map place))
      (writes : WritesAs (state_at mid.map live place) pe new v place mid.map map)
      (idle : (q a : ℕ) → marks_at map a ≡ None → IsIdle (pends_at map q a)) where
    here : WritesAs (state_at old.map live place) pe new v place old.map map
    here = subst (λ (x : PlaceMap). WritesAs (state_at x live place) pe new v place x map) done.same_map writes

    abbrev state : EntryState
    state = here.written.0

    written_n : Written (state_of v_old n.kind n.level place) pe (core_of n.kind n.level v) state
    written_n = subst (λ (x : Option Core). Written (state_of v_old n.kind n.level place) pe x state) new_n
        (subst (λ (x : Path). Written (state_of v_old x.kind x.level place) pe new state) at.2
        (subst (λ (x : Option Core). Written (state_at old.map x place) pe new state) live_is here.written.1))

    move : (i : TreeIndex) → Writes v_old (view_of map i) place v state
    move i = record {
      value = here.put.values;
      marks = here.written.2.marks;
      pends = λ q a k b c p. ap (λ (x : Pends). waits x b c p) (here.written.2.pends q a k);
      dropped = here.written.2.dropped;
    }

    pub taken : Meets old (record mid { map = map }) e (Ok tt)
    taken = meets_ok e m.tree.may (record {
      header = done.frame.header;
      index_header = done.frame.index_header;
      numbers = λ n. here.put.pages ∙ sym (ap (λ (x : PlaceMap). pages_of x) done.same_map) ∙ done.frame.numbers n;
    })
        (λ heading h s fits. (
          done.kept heading h s,
          (rules heading).limits.others h e refl,
          told heading h s fits (attached_next held new) refl done.links,
          subst (λ (r : Roots). roots.Stands r heading (e ∷ h)) (sym done.same_roots)
              (others old.roots heading h e s.roots refl (done.kept heading h s)),
          done.guarded heading h s,
        ))
      where
        told : (heading : Heading) (h : List Event) → PartsStand old heading h → fits_heading heading e ≡ true
            → (o : Option ℕ) → attached_next held new ≡ o → Links old.map place o old.index mid.index
            → Told heading (e ∷ h) (view_of map mid.index)
        told heading h s fits None k same = subst (λ (i : TreeIndex). Told heading (e ∷ h) (view_of map i)) (sym same)
            (after_plain_write (laws heading) s.told pe (move old.index) fits (done.kept heading h s) (λ p. refl)
            (record { tracked = tracked_alike old.map map here.put.pages; known = λ p. refl; pages = refl }) idle (λ p. refl) (λ p. refl) n at.1
            written_n (none_attached k))
        told heading h s fits (Some next) k links =
            let attached = attaches_of old.index mid.index old.map map (attach.Below place next) links.0
            (record {
              tracked = tracked_alike old.map map here.put.pages;
              known = links.1.known;
              pages = ap length links.1.pages;
            }) in
            after_attaching_write (laws heading) s.told pe (move mid.index) fits (done.kept heading h s)
            attached.null attached.tracking idle n next at.1 written_n (one_attached next k).0 (one_attached next k).1
            (subst (λ (o : Option Node). Attaches v_old (view_of map mid.index) (index_paths.below_all o place next)) at.1
            attached)
