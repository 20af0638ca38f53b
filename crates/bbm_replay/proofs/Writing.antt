-- Writes.
use Rattle.bbm_replay.proofs.Common.{broken, kept_next, Written, is_broken, waits, IsIdle, EntryState, marks_of_state}
use Rattle.bbm_replay.proofs.Common.{state_from, EntryStands, SameCores, View, notes, Laws, Apart, Told, state_of}
use Rattle.bbm_replay.proofs.Common.{waiting}
use Rattle.bbm_rules.proofs.Common.{◌≡◌, ℕ, Bool, true, false, cond, ◌&&◌, not, ◌⊎◌, ◌==◌, List, [], ◌∷◌, Option, Some}
use Rattle.bbm_rules.proofs.Common.{None, is_some, refl, sym, ◌∙◌, ap, subst, inl, eq-eqb, eqb-true, eqb-false, ne_eqb}
use Rattle.bbm_rules.proofs.Common.{and_left, same_Some, core_of, Core, fits_heading, attached_by, Patterns, page_of}
use Rattle.bbm_rules.proofs.Common.{Heading, Event, Write, Node, next_of, node_below, arith}
use Rattle.bbm_entry_state.specs.EntryStanding.{KeepsPends}
use Rattle.bbm_replay_trees.specs.Told.{core_at}
use Rattle.bbm_replay_trees.specs.Told as told
use Rattle.bbm_replay.proofs.Moves.{Attaches, Grown, SameNodes, SameTracked, Writes}
use Rattle.bbm_replay.proofs.Aparts.{apart_grown, apart_same}
use Rattle.bbm_replay.proofs.Entries.{some_pe}
use Rattle.bbm_replay.proofs.Growing.{grown, grown_entry, grown_outside}
use Rattle.bbm_replay.proofs.Quiet.{told_next}
use Rattle.bbm_replay.proofs.Ways.{state_core}

-- the state that a write leaves is the one that is read back
read_back : (new : EntryState) (value : Option Core) (old : EntryState) (pe : ℕ) → Written old pe value new
    → state_from value (marks_of_state new) ≡ new
read_back new value old pe w = grind (arith, w.core, w.broken)

-- the core of what each place of a tree holds
pub cores : {heading : Heading} {h : List Event} {v : View} → Told heading h v → SameCores heading h (core_at v)
cores {v = v} t n a is =
    sym (state_core n.kind n.level (v.value a) (v.marks a)) ∙ (t.entries n a (t.nodes (page_of a) ∙ is)).core

module _ {heading : Heading} (laws : Laws heading) {h : List Event} {old new : View} (t : Told heading h old) (pe : ℕ)
    {place v : ℕ} {state : EntryState} (move : Writes old new place v state) where
  abbrev e : Event
  e = Write pe place v

  -- what is left waiting at the place
  left : KeepsPends state (waiting old place) (waiting new place)
  left q b c p = by (is_broken state) refl
    where
      by : (x : Bool) → is_broken state ≡ x
          → waits (new.pends q place) b c p ≡ (is_broken state && waits (old.pends q place) b c p)
      by true k =
          let open_still : (place == place && not (is_broken state)) ≡ false = rw (eq-eqb place place refl, k) refl in
          move.pends q place open_still b c p ∙ sym (ap (λ x. x && waits (old.pends q place) b c p) k)
      by false k = move.dropped q k b c p ∙ sym (ap (λ x. x && waits (old.pends q place) b c p) k)

  value_here : new.value place ≡ v
  value_here = move.value place ∙ ap (λ b. cond b v (old.value place)) (eq-eqb place place refl)

  marks_here : new.marks place ≡ marks_of_state state
  marks_here = move.marks place ∙ ap (λ b. cond b (marks_of_state state) (old.marks place)) (eq-eqb place place refl)

  marks_off : (a : ℕ) → (a == place) ≡ false → new.marks a ≡ old.marks a
  marks_off a k = move.marks a ∙ ap (λ b. cond b (marks_of_state state) (old.marks a)) k

  -- the place, at its node
  at_place : (n : Node) → old.node (page_of place) ≡ Some n
      → Written (state_of old n.kind n.level place) pe (core_of n.kind n.level v) state
      → EntryStands heading (e ∷ h) n.kind n.level place (state_of new n.kind n.level place) (waiting new place)
  at_place n is written =
      let back = read_back state (core_of n.kind n.level v) (state_of old n.kind n.level place) pe written in
      let same : state ≡ state_of new n.kind n.level place = cc (back, value_here, marks_here) in
      subst (λ x. EntryStands heading (e ∷ h) n.kind n.level place x (waiting new place)) same
      (laws.write h n.kind n.level place pe v (state_of old n.kind n.level place) state (waiting old place)
      (waiting new place) (some_pe laws t) written left (t.entries n place is))

  module _ (fits : fits_heading heading e ≡ true) (unbroken : broken heading Patterns h e ≡ None)
      (null : (p : ℕ) → new.null p ≡ old.null p) (tracking : SameTracked old new)
      (idle : (q a : ℕ) → new.marks a ≡ None → IsIdle (new.pends q a)) where
    told_written : Grown old new → told.SameNodes heading (e ∷ h) new.node
        → told.SameFresh heading (e ∷ h) new.fresh → Apart new → ((m : Node) → new.node (page_of place) ≡ Some m
        → EntryStands heading (e ∷ h) m.kind m.level place (state_of new m.kind m.level place) (waiting new place))
        → (new.node (page_of place) ≡ None → new.marks place ≡ None) → Told heading (e ∷ h) new
    told_written g nodes fresh apart here gone =
        told_next laws new t e fits unbroken refl tracking
        (laws.values.write h old new pe place v t.values move.value) nodes fresh
        (λ p. null p ∙ laws.pages.same_null h old e refl t.null p) apart
        (λ m a is. entry m a is (a == place) refl) (λ a is. outside a is (a == place) refl)
      where
        entry : (m : Node) (a : ℕ) → new.node (page_of a) ≡ Some m → (b : Bool) → (a == place) ≡ b
            → EntryStands heading (e ∷ h) m.kind m.level a (state_of new m.kind m.level a) (waiting new a)
        entry m a is true k =
            subst (λ (x : ℕ). new.node (page_of x) ≡ Some m
            → EntryStands heading (e ∷ h) m.kind m.level x (state_of new m.kind m.level x) (waiting new x))
            (sym (eqb-true a place k)) (here m) is
        entry m a is false k = grown_entry laws new t e g idle m a is (ne_eqb place a (λ e. eqb-false a place k (sym e)))
            (move.value a ∙ ap (λ b. cond b v (old.value a)) k) (marks_off a k)
            (λ q. move.pends q a (and_left (a == place) (not (is_broken state)) k))

        outside : (a : ℕ) → new.node (page_of a) ≡ None → (b : Bool) → (a == place) ≡ b → new.marks a ≡ None
        outside a is true k = subst (λ (x : ℕ). new.node (page_of x) ≡ None → new.marks x ≡ None)
            (sym (eqb-true a place k)) gone is
        outside a is false k = marks_off a k ∙ t.outside a (grown_outside old new g (page_of a) is)

    -- a write at a place of a tree
    after_write : (n : Node) → old.node (page_of place) ≡ Some n
        → Written (state_of old n.kind n.level place) pe (core_of n.kind n.level v) state
        → Grown old new → told.SameNodes heading (e ∷ h) new.node → told.SameFresh heading (e ∷ h) new.fresh
        → Apart new → Told heading (e ∷ h) new
    after_write n is written g nodes fresh apart =
        let stays = g.stays (page_of place) n is in
        told_written g nodes fresh apart
        (λ m there. subst (λ (x : Node). EntryStands heading (e ∷ h) x.kind x.level place
        (state_of new x.kind x.level place) (waiting new place)) (same_Some n m (sym stays ∙ there))
        (at_place n is written))
        (λ none. let both : Some n ≡ None = sym stays ∙ none in absurd cc)

    -- one that attaches nothing
    module _ (nodes : SameNodes old new) (fresh : (p : ℕ) → new.fresh p ≡ old.fresh p) where
      still : Grown old new
      still = record { stays = λ p m k. nodes p ∙ k; comes = λ p m k. inl (sym (nodes p) ∙ k) }

      module _ (unattached : attached_by heading Patterns (notes heading h) e ≡ None) where
        same_nodes : told.SameNodes heading (e ∷ h) new.node
        same_nodes p = nodes p ∙ laws.nodes.plain_write h old pe place v (laws.proper t.proper)
            (kept_next heading Patterns h e t.kept unbroken) unattached t.nodes p

        same_fresh : told.SameFresh heading (e ∷ h) new.fresh
        same_fresh p = fresh p ∙ laws.fresh.others h old e (kept_next heading Patterns h e t.kept unbroken) refl refl
            unattached t.fresh p

      same_apart : Apart new
      same_apart = apart_same old new t.apart nodes (record { fresh = fresh; null = null }) tracking.tracked

      pub after_plain_write : (n : Node) → old.node (page_of place) ≡ Some n
          → Written (state_of old n.kind n.level place) pe (core_of n.kind n.level v) state
          → (is_some (core_at old n.kind n.level place) ≡ true) ⊎ (next_of n.kind n.level v ≡ None)
          → Told heading (e ∷ h) new
      after_plain_write n is written plain =
          let unattached = laws.unattached.attaches_none h old n pe place v t.nodes (cores t) is plain in
          after_write n is written still (same_nodes unattached) (same_fresh unattached) same_apart

      -- at a place outside the trees
      pub after_write_outside : old.node (page_of place) ≡ None → marks_of_state state ≡ None
          → attached_by heading Patterns (notes heading h) e ≡ None → Told heading (e ∷ h) new
      after_write_outside away clean unattached =
          told_written still (same_nodes unattached) (same_fresh unattached) same_apart
          (λ m there. let both : Some m ≡ None = sym there ∙ nodes (page_of place) ∙ away in absurd cc)
          (λ none. marks_here ∙ clean)

    -- one that attaches the next page
    pub after_attaching_write : (n : Node) (next : ℕ) → old.node (page_of place) ≡ Some n
        → Written (state_of old n.kind n.level place) pe (core_of n.kind n.level v) state
        → core_at old n.kind n.level place ≡ None → next_of n.kind n.level v ≡ Some next
        → Attaches old new (node_below n place next ∷ []) → Told heading (e ∷ h) new
    after_attaching_write n next is written empty table attached =
        let nodes = laws.nodes.write h old new n pe place v next (laws.proper t.proper)
        t.fit (kept_next heading Patterns h e t.kept unbroken) t.nodes t.fresh t.values (cores t) is empty table
        attached.node in
        let g = grown old new (node_below n place next ∷ []) attached in
        after_write n is written g nodes (laws.fresh.attached h old new e refl refl t.fresh nodes attached.fresh)
        (apart_grown old new t.apart g attached.fresh null tracking.tracked)
