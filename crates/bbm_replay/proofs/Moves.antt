-- What the calls of an event change in a view. Source: project's own choice.
use Rattle.bbm_replay.proofs.Common.{Completed, Noted, Published, is_broken, waits, IsIdle, Pends, EntryState}
use Rattle.bbm_replay.proofs.Common.{marks_of_state, state_from, Attached, View, kept, is_tracked, PlaceMap}
use Rattle.bbm_page_map.specs.PageLists.{number_in}
use Rattle.bbm_place_map.specs.Map.{pages_of}
use Rattle.std.proofs.Common.{ap}
use Rattle.bbm_rules.proofs.Common.{Core, PeMask, Cover, page_of, Barrier, Event, Dmb, Isb, Msr, Lock, Unlock, Node}
use Rattle.std.specs.Prelude.{◌≡◌, ℕ, ◌+◌, ◌⊎◌, ◌↔◌, Bool, true, false, not, ◌&&◌, ◌||◌, ◌==◌, List, Option, Some, None}
use Rattle.std.specs.Prelude.{is_none, is_some, nat_eq, if◌then◌else◌}

-- maps that track the same pages
pub tracked_alike : (old new : PlaceMap) → pages_of new ≡ pages_of old → (p : ℕ) → is_tracked new p ≡ is_tracked old p
tracked_alike old new same p = ap (λ (ps : List ℕ). is_some (number_in ps p)) same

-- the same waits
abbrev pub Alike : Pends → Pends → Type 0
Alike old new = (b : Bool) (c : Cover) (p : ℕ) → waits new b c p ≡ waits old b c p

module _ (old new : View) where
  pub record SameMap : Type 0 where
    pub value : (a : ℕ) → new.value a ≡ old.value a
    pub marks : (a : ℕ) → new.marks a ≡ old.marks a
    pub pends : (q a : ℕ) → Alike (old.pends q a) (new.pends q a)

  pub record SamePages : Type 0 where
    pub fresh : (p : ℕ) → new.fresh p ≡ old.fresh p
    pub null : (p : ℕ) → new.null p ≡ old.null p

  pub record SameTracked : Type 0 where
    pub tracked : (p : ℕ) → new.tracked p ≡ old.tracked p
    pub known : (p : ℕ) → new.known p ≡ old.known p
    pub pages : new.pages ≡ old.pages

  abbrev pub SameNodes : Type 0
  SameNodes = (p : ℕ) → new.node p ≡ old.node p

  -- nothing changed
  pub record Same : Type 0 where
    pub map : SameMap
    pub nodes : SameNodes
    pub roles : SamePages
    pub tracking : SameTracked

  -- a page that is in no tree was initialised
  pub record Begins (page : ℕ) : Type 0 where
    pub outside : old.node page ≡ None
    pub not_null : old.null page ≡ false
    pub nodes : SameNodes
    pub value : (a : ℕ) → new.value a ≡ (if page_of a == page then 0 else old.value a)
    pub marks : (a : ℕ) → new.marks a ≡ (if page_of a == page then None else old.marks a)
    pub pends : (q a : ℕ) → (page_of a == page) ≡ false → Alike (old.pends q a) (new.pends q a)
    pub fresh : (p : ℕ) → new.fresh p ≡ (p == page || old.fresh p)
    pub null : (p : ℕ) → new.null p ≡ old.null p
    pub tracked : (p : ℕ) → new.tracked p ≡ (p == page || old.tracked p)
    pub known : (p : ℕ) → new.known p ≡ (p == page || old.known p)
    pub pages : new.pages ≡ old.pages + (if old.known page then 0 else 1)

  -- a page became a null page
  pub record Nullifies (page : ℕ) : Type 0 where
    pub was_fresh : old.fresh page ≡ true
    pub map : SameMap
    pub nodes : SameNodes
    pub tracking : SameTracked
    pub fresh : (p : ℕ) → new.fresh p ≡ (old.fresh p && not (p == page))
    pub null : (p : ℕ) → new.null p ≡ (p == page || old.null p)

  -- pages were attached, from these nodes on
  pub record Attaches (starts : List Node) : Type 0 where
    pub node : (p : ℕ) (m : Node) → (new.node p ≡ Some m)
        ↔ ((old.node p ≡ Some m) ⊎ ((m.page ≡ p) × Attached old.fresh old.value starts m))
    pub fresh : (p : ℕ) → new.fresh p ≡ (old.fresh p && is_none (new.node p))
    pub null : (p : ℕ) → new.null p ≡ old.null p
    pub tracking : SameTracked

  -- pages left the trees, but for those that the test keeps; their places aren't broken any more
  pub record Leaves (keeps : Node → Bool) : Type 0 where
    pub node : (p : ℕ) → new.node p ≡ kept keeps (old.node p)
    pub value : (a : ℕ) → new.value a ≡ old.value a
    pub marks : (a : ℕ) → (new.node (page_of a) ≡ None → new.marks a ≡ None)
        × ((n : Node) → new.node (page_of a) ≡ Some n → new.marks a ≡ old.marks a)
    pub pends : (q a : ℕ) (n : Node) → new.node (page_of a) ≡ Some n → Alike (old.pends q a) (new.pends q a)
    pub roles : SamePages
    pub tracking : SameTracked

  -- a value was written at a place, which leaves this state there
  pub record Writes (place v : ℕ) (state : EntryState) : Type 0 where
    pub value : (a : ℕ) → new.value a ≡ (if a == place then v else old.value a)
    pub marks : (a : ℕ) → new.marks a ≡ (if a == place then marks_of_state state else old.marks a)
    pub pends : (q a : ℕ) → (a == place && not (is_broken state)) ≡ false → Alike (old.pends q a) (new.pends q a)
    pub dropped : (q : ℕ) → is_broken state ≡ false → IsIdle (new.pends q place)

  -- a DSB of q published, in a log with n PEs, unless it publishes nothing
  pub record Hears (silent : Bool) (q : ℕ) (dsb : Barrier) (n : ℕ) : Type 0 where
    pub published : silent ≡ false → (live : Option Core) (a : ℕ)
        → Published (state_from live (old.marks a)) q dsb n (state_from live (new.marks a))
    pub unheard : silent ≡ true → (a : ℕ) → new.marks a ≡ old.marks a
    pub value : (a : ℕ) → new.value a ≡ old.value a
    pub pends : (p a : ℕ) → Alike (old.pends p a) (new.pends p a)

  -- it answered the TLBIs of q
  pub record Completes (q : ℕ) (dsb : Barrier) (n : ℕ) : Type 0 where
    pub completed : (a : ℕ) → Completed (state_from None (old.marks a)) (old.pends q a) dsb n
        (state_from None (new.marks a)) (new.pends q a)
    pub others : (p a : ℕ) → nat_eq p q ≡ false → (b : Bool) (c : Cover) (i : ℕ)
        → waits (new.pends p a) b c i ≡ (is_some (new.marks a) && waits (old.pends p a) b c i)
    pub value : (a : ℕ) → new.value a ≡ old.value a

  -- a TLBI of q was issued that reaches these PEs, is broadcast or not, and covers each place so far
  pub record Issues (q : ℕ) (reach : PeMask) (broadcast : Bool) (cover : ℕ → Cover) : Type 0 where
    pub value : (a : ℕ) → new.value a ≡ old.value a
    pub marks : (a : ℕ) → new.marks a ≡ old.marks a
    pub noted : (n : Node) (a : ℕ) → old.node (page_of a) ≡ Some n → is_some (old.marks a) ≡ true
        → Noted (state_from None (old.marks a)) (old.pends q a) reach broadcast (cover a) (new.pends q a)
    pub others : (p a : ℕ) → (nat_eq p q && is_some (old.marks a)) ≡ false → Alike (old.pends p a) (new.pends p a)
    pub nodes : SameNodes
    pub roles : SamePages
    pub tracking : SameTracked

-- whether an event changes no value, no tree, no page and no pending, whatever came before it
abbrev pub is_quiet : Event → Bool
is_quiet (Dmb pe dsb) = true
is_quiet (Isb pe) = true
is_quiet (Msr pe reg value) = true
is_quiet (Lock pe lock) = true
is_quiet (Unlock pe lock) = true
is_quiet _ = false

-- The trees grew: a page of a tree was one before, at the same node, or it was fresh.
pub record Grown (old new : View) : Type 0 where
  pub stays : (p : ℕ) (n : Node) → old.node p ≡ Some n → new.node p ≡ Some n
  pub comes : (p : ℕ) (n : Node) → new.node p ≡ Some n → (old.node p ≡ Some n) ⊎ (old.fresh p ≡ true)
