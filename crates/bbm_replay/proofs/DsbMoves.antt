-- DSBs: what stands after one, in a view and at the parts.
use Rattle.bbm_replay.proofs.Common.{broken, kept_next, Published, core_in, is_broken, waits, Marks, EntryState}
use Rattle.bbm_replay.proofs.Common.{state_from, Kind, EntryStands, core_with, View, is_held_by, kept, notes, Laws}
use Rattle.bbm_replay.proofs.Common.{Told, state_of, waiting, node_in, is_tracked, marks_at, PlaceMap, MayMeet, Meets}
use Rattle.bbm_replay.proofs.Common.{SameFrame, PartsStand, view_of, ReplayState}
use Rattle.bbm_rules.proofs.Common.{◌≡◌, ◌⊎◌, if◌then◌else◌, inl, inr, ℕ, Bool, true, false, ◌&&◌, nat_eq, List, ◌∷◌}
use Rattle.bbm_rules.proofs.Common.{Contains, Option}
use Rattle.bbm_rules.proofs.Common.{Some, None, is_some, none-some, refl, sym, ◌∙◌, ap, subst, and_parts, eqb-true}
use Rattle.bbm_rules.proofs.Common.{not-true}
use Rattle.bbm_rules.proofs.Common.{and_right, is_non, core_of, is_valid, Core, Cover, fits_heading, Patterns, held}
use Rattle.bbm_rules.proofs.Common.{page_of, Barrier, Heading, Event, Dsb, Above, Node, arith, Ok}
use Rattle.bbm_lemmas.proofs.Words.{none_is}
use Rattle.bbm_replay_entries.specs.EntryEvents.{Heard}
use Rattle.bbm_replay_trees.specs.Told.{core_at, next_in}
use Rattle.bbm_descriptor.specs.declared.desc.Core.TheVariants.{Table, Leaf}
use Rattle.bbm_entry_state.specs.EntryCalls.{clean_after}
use Rattle.bbm_lemmas.specs.EveryPe.{every_pe}
use Rattle.bbm_place_map.specs.Map.{lost_pages}
use Rattle.bbm_place_map.specs.MapCalls.{lost_next}
use Rattle.bbm_place_map.specs.Each.{loses, next_of, table_of}
use Rattle.bbm_tree_index.specs.Leaving.{HangOr}
use Rattle.bbm_replay.proofs.Parents.{by_parent, node_page}
use Rattle.bbm_roots.specs.RootChanges as changes
use Rattle.bbm_roots.specs.RootsStand as roots
use Rattle.bbm_replay.proofs.Moves.{Completes, Hears, Leaves, SamePages, SameTracked}
use Rattle.bbm_replay.proofs.Aparts.{apart_leaves, apart_same, was_there}
use Rattle.bbm_replay.proofs.Cases.{either, some_or}
use Rattle.bbm_replay.proofs.Entries.{broken_marks, by_break, entry_same, some_pe}
use Rattle.bbm_replay.proofs.Quiet.{told_next}
use Rattle.bbm_replay.proofs.Writing.{cores}
use Rattle.bbm_replay.proofs.Ways.{state_core}
use Rattle.bbm_tree_index.specs.Index.{pages_in}
use Rattle.bbm_replay.proofs.Framing.{meets_left}

-- of a broken place the state is one whatever its live core
pub same_state : (live live' : Option Core) (m : Option Marks) → is_some m ≡ true → state_from live m ≡ state_from live' m
same_state live live' m k = grind arith

-- what is kept where something is
left_alone : (b : Bool) (x y : Option Core) (core : Core) → x ≡ (if b then None else y) → x ≡ Some core → y ≡ Some core
left_alone true x y core is some = absurd (none-some core (sym is ∙ some))
left_alone false x y core is some = sym is ∙ some

next_read : (core : Core) → next_of core ≡ next_in (Some core)
next_read (Table next ns) = refl
next_read (Leaf out attrs share global contiguous) = refl

table_read : (m : Option Marks) → table_of m ≡ next_in (core_in (state_from None m))
table_read None = refl
table_read (Some m) = next_read m.core

module _ {heading : Heading} (laws : Laws heading) {h : List Event} {old mid new : View} (t : Told heading h old)
    {q : ℕ} {dsb : Barrier} (hears : Hears old mid (heading.cnp && is_non dsb.domain) q dsb heading.pes)
    (completes : Completes mid new q dsb heading.pes) where
  abbrev e : Event
  e = Dsb q dsb

  value_same : (a : ℕ) → new.value a ≡ old.value a
  value_same a = completes.value a ∙ hears.value a

  heard_marks : (a : ℕ) → is_some (mid.marks a) ≡ is_some (old.marks a)
  heard_marks a = either (heading.cnp && is_non dsb.domain) (λ k. ap (λ (m : Option Marks). is_some m) (hears.unheard k a))
      (λ k. sym (broken_marks None (mid.marks a)) ∙ (hears.published k None a).broken ∙ broken_marks None (old.marks a))

  completed_marks : (a : ℕ) → is_some (new.marks a) ≡ (is_some (core_in (state_from None (new.marks a))) && is_some (mid.marks a))
  completed_marks a = sym (broken_marks None (new.marks a)) ∙ (completes.completed a).broken
      ∙ ap (λ b. is_some (core_in (state_from None (new.marks a))) && b) (broken_marks None (mid.marks a))

  pub whole_stays : (a : ℕ) → old.marks a ≡ None → new.marks a ≡ None
  whole_stays a k = none_is (new.marks a) (completed_marks a
      ∙ and_right (is_some (core_in (state_from None (new.marks a)))) (is_some (mid.marks a))
      (heard_marks a ∙ ap (λ (m : Option Marks). is_some m) k))

  -- what waits where nothing is broken any more
  none_waits : (a : ℕ) → new.marks a ≡ None → (p : ℕ) (b : Bool) (c : Cover) (i : ℕ) → waits (new.pends p a) b c i ≡ false
  none_waits a k p b c i = either (nat_eq p q) (λ same. cc (eqb-true p q same, (completes.completed a).waiting b c i, k))
      (λ other. cc (completes.others p a other b c i, k))

  -- each place of a tree
  module _ (n : Node) (a : ℕ) (is : old.node (page_of a) ≡ Some n) where
    abbrev live : Option Core
    live = core_of n.kind n.level (old.value a)

    -- the value of a broken one is invalid
    pub unread : is_some (old.marks a) ≡ true → live ≡ None
    unread k =
        let s = t.entries n a is in
        let now_broken : is_broken (state_of old n.kind n.level a) ≡ true = broken_marks live (old.marks a) ∙ k in
        none_is live (laws.core_where_valid n.kind n.level (old.value a)
        ∙ ap (λ (x : ℕ). is_valid n.kind n.level x) (t.values a)
        ∙ not-true _ (and_parts _ _ (sym s.broken ∙ now_broken)).1)

    broken_entry : is_some (old.marks a) ≡ true
        → EntryStands heading (e ∷ h) n.kind n.level a (state_of new n.kind n.level a) (waiting new a)
    broken_entry k =
        let s = t.entries n a is in
        let dead : live ≡ None = unread k in
        let same_mid : state_from live (mid.marks a) ≡ state_from None (mid.marks a)
        = same_state live None (mid.marks a) (heard_marks a ∙ k) in
        let same_new : state_from None (new.marks a) ≡ state_of new n.kind n.level a
        = ap (λ (o : Option Core). state_from o (new.marks a)) (sym dead ∙ ap (λ (x : ℕ). core_of n.kind n.level x) (sym (value_same a))) in
        let heard : Heard heading (state_of old n.kind n.level a) q dsb (state_from None (mid.marks a)) = record {
          published = λ loud. subst (λ (x : EntryState). Published (state_of old n.kind n.level a) q dsb heading.pes x) same_mid
              (hears.published loud live a);
          unheard = λ quiet. sym same_mid ∙ ap (λ (m : Option Marks). state_from live m) (hears.unheard quiet a);
        } in
        subst (λ (x : EntryState). EntryStands heading (e ∷ h) n.kind n.level a x (waiting new a)) same_new
        (laws.dsb.calls h n.kind n.level a q dsb (state_of old n.kind n.level a) (state_from None (mid.marks a))
        (state_from None (new.marks a)) (waiting mid a) (waiting new a) (some_pe laws t) heard
        (completes.completed a)
        (λ p other b c i. completes.others p a other b c i
        ∙ ap (λ x. x && waits (mid.pends p a) b c i) (sym (broken_marks None (new.marks a))))
        refl (entry_same laws s refl (λ p. hears.pends p a)))

    pub dsb_entry : EntryStands heading (e ∷ h) n.kind n.level a (state_of new n.kind n.level a) (waiting new a)
    dsb_entry = by_break laws new t e n a is (value_same a) broken_entry (λ k whole s. (
      whole_stays a k,
      λ p b c i. none_waits a (whole_stays a k) p b c i ∙ sym (s.idle whole p b c i),
      laws.dsb.whole h n.kind n.level a q dsb _ (waiting old a) (some_pe laws t) whole s,
    ))

  abbrev holds : Kind → ℕ → ℕ → Bool
  holds kind level a = is_some (core_at new kind level a)

  holds_is : (m : Node) (a : Above) → old.node m.page ≡ Some m → Contains m.above a
      → holds m.kind a.level a.place ≡ is_some (held heading Patterns m.kind a.level a.place (notes heading (e ∷ h)))
  holds_is m a is inside =
      let up = laws.neighbours.above h old m.page m a t.kept t.nodes (cores t) is inside in
      let n = up.0 in
      let held_now = laws.holds.holds (e ∷ h) n.kind n.level a.place (state_of new n.kind n.level a.place)
      (waiting new a.place) (dsb_entry n a.place up.1) in
      cc (state_core n.kind n.level (new.value a.place) (new.marks a.place), held_now, up.2, up.3)

  heard_core : (a : ℕ) → core_in (state_from None (mid.marks a)) ≡ core_in (state_from None (old.marks a))
  heard_core a = either (heading.cnp && is_non dsb.domain)
      (λ k. ap (λ (m : Option Marks). core_in (state_from None m)) (hears.unheard k a))
      (λ k. (hears.published k None a).core)

  -- where a page hangs, its place holds it still, or nothing, and then the page is told
  module _ (these : ℕ → Type 0) (told : (a page : ℕ) → loses (mid.marks a) (new.marks a) ≡ Some page → these page) where
    abbrev Told_at : Kind → ℕ → ℕ → ℕ → Type 0
    Told_at kind level a page = (next_in (core_at new kind level a) ≡ Some page) ⊎ ((holds kind level a ≡ false) × these page)

    -- one that was broken
    broken_at : (n : Node) (a page : ℕ) → old.node (page_of a) ≡ Some n → (m : Marks) → old.marks a ≡ Some m
        → next_in (Some m.core) ≡ Some page → Told_at n.kind n.level a page
    broken_at n a page is m was table =
        let heard : core_in (state_from None (mid.marks a)) ≡ Some m.core
        = heard_core a ∙ ap (λ (x : Option Marks). core_in (state_from None x)) was in
        some_or (new.marks a)
        (λ m' now.
        let same : Some m'.core ≡ Some m.core
        = sym (left_alone (every_pe heading.pes (clean_after (state_from None (mid.marks a)) (mid.pends q a) dsb))
        (core_in (state_from None (new.marks a))) (core_in (state_from None (mid.marks a))) m'.core (completes.completed a).core
        (ap (λ (x : Option Marks). core_in (state_from None x)) now)) ∙ heard in
        inl (ap (λ (x : Option Marks). next_in (core_with x n.kind n.level (new.value a))) now ∙ ap next_in same ∙ table))
        (λ now.
        let dead : core_of n.kind n.level (new.value a) ≡ None
        = ap (λ (x : ℕ). core_of n.kind n.level x) (value_same a) ∙ unread n a is (ap (λ (x : Option Marks). is_some x) was) in
        inr (
          ap (λ (x : Option Marks). is_some (core_with x n.kind n.level (new.value a))) now ∙ ap (λ (x : Option Core). is_some x) dead,
          told a page (ap (λ (x : Option Marks). loses (mid.marks a) x) now ∙ table_read (mid.marks a) ∙ ap next_in heard ∙ table),
        ))

    told_at : (n : Node) (a page : ℕ) → old.node (page_of a) ≡ Some n → next_in (core_at old n.kind n.level a) ≡ Some page
        → Told_at n.kind n.level a page
    told_at n a page is table = some_or (old.marks a)
        (λ m was. broken_at n a page is m was
        (sym (ap (λ (x : Option Marks). next_in (core_with x n.kind n.level (old.value a))) was) ∙ table))
        (λ whole. let same : new.marks a ≡ old.marks a = whole_stays a whole ∙ sym whole in
        inl ((λ i. next_in (core_with (same i) n.kind n.level (value_same a i))) ∙ table))

    pub hang_or : (page : ℕ) (m : Node) (a : Above) (rest : List Above) → old.node page ≡ Some m → m.page ≡ page
        → m.above ≡ a ∷ rest → Told_at m.kind a.level a.place page
    hang_or page m a rest is here e =
        let up = laws.neighbours.up h old page m a rest t.kept t.fit t.nodes (cores t) is e in
        by_parent (λ kind level. Told_at kind level a.place page) up e
        (told_at up.parent a.place page up.is_parent (up.table ∙ ap (λ (p : ℕ). Some p) here))

  pub after_dsb : (last : View) → fits_heading heading e ≡ true → broken heading Patterns h e ≡ None
      → ((p : ℕ) → new.node p ≡ old.node p) → Leaves new last (is_held_by holds) → SamePages old new
      → SameTracked old new → Told heading (e ∷ h) last
  after_dsb last fits unbroken nodes move roles tracking =
      let kept_on = kept_next heading Patterns h e t.kept unbroken in
      told_next laws last t e fits unbroken refl (record {
        tracked = λ p. move.tracking.tracked p ∙ tracking.tracked p;
        known = λ p. move.tracking.known p ∙ tracking.known p;
        pages = move.tracking.pages ∙ tracking.pages;
      }) (λ a. move.value a ∙ value_same a ∙ laws.values.others h old e refl t.values a)
      (laws.nodes.dsb h old last holds q dsb kept_on t.nodes holds_is
      (λ p. move.node p ∙ ap (λ (o : Option Node). kept (is_held_by holds) o) (nodes p)))
      (λ p. move.roles.fresh p ∙ roles.fresh p ∙ laws.fresh.others h old e kept_on refl refl refl t.fresh p)
      (λ p. move.roles.null p ∙ roles.null p ∙ laws.pages.same_null h old e refl t.null p)
      (apart_leaves new last (is_held_by holds) (apart_same old new t.apart nodes roles tracking.tracked) move)
      (λ n a is.
      let was = was_there (is_held_by holds) (new.node (page_of a)) n (sym (move.node _) ∙ is) in
      let same : state_of new n.kind n.level a ≡ state_of last n.kind n.level a = cc (move.value a, (move.marks a).1 n is) in
      entry_same laws (dsb_entry n a (sym (nodes _) ∙ was.1)) same (λ p. move.pends p a n is))
      (λ a is. (move.marks a).0 is)

module _ (laws : (heading : Heading) → Laws heading) (old : ReplayState) (m1 m2 : PlaceMap) (pe : ℕ) (dsb : Barrier)
    (silent : Bool) (n : ℕ) (silent_is : silent ≡ (old.header.cnp && is_non dsb.domain)) (count : n ≡ old.header.pes)
    (hears : Hears (view_of old.map old.index) (view_of m1 old.index) silent pe dsb n)
    (completes : Completes (view_of m1 old.index) (view_of m2 old.index) pe dsb n) where
  abbrev holding : Kind → ℕ → ℕ → Bool
  holding kind level a = is_some (core_at (view_of m2 old.index) kind level a)

  module _ (heading : Heading) (h : List Event) (s : PartsStand old heading h) where
    count_here : n ≡ heading.pes
    count_here = count ∙ ap (λ (x : Heading). x.pes) s.header

    hears_here : Hears (view_of old.map old.index) (view_of m1 old.index) (heading.cnp && is_non dsb.domain) pe dsb heading.pes
    hears_here = subst (λ b. Hears (view_of old.map old.index) (view_of m1 old.index) b pe dsb heading.pes)
        (silent_is ∙ ap (λ (x : Heading). x.cnp && is_non dsb.domain) s.header)
        (subst (λ x. Hears (view_of old.map old.index) (view_of m1 old.index) silent pe dsb x) count_here hears)

    completes_here : Completes (view_of m1 old.index) (view_of m2 old.index) pe dsb heading.pes
    completes_here = subst (λ x. Completes (view_of m1 old.index) (view_of m2 old.index) pe dsb x) count_here completes

    still_outside : (a : ℕ) → node_in old.index (page_of a) ≡ None → marks_at m2 a ≡ None
    still_outside a none = whole_stays (laws heading) s.told hears_here completes_here a (s.told.outside a none)

    -- each page that hangs is held, or among the lost ones
    pub hang_or_lost : ((a page : ℕ) → lost_next m1 m2 a ≡ Some page → Contains (lost_pages m2) page)
        → HangOr (node_in old.index) m2 (Contains (lost_pages m2))
    hang_or_lost told page m a rest is e =
        hang_or (laws heading) s.told hears_here completes_here (Contains (lost_pages m2)) told page m a rest is
        (node_page old.index page m is) e

  pub dsb_meets : MayMeet old (Dsb pe dsb) → changes.BarriersPass → ((p : ℕ) → is_tracked m2 p ≡ is_tracked old.map p)
      → (new : ReplayState) → SameFrame old new → new.unmapped ≡ old.unmapped → pages_in new.index ≡ pages_in old.index
      → ((heading : Heading) (h : List Event) → roots.Stands old.roots heading h
      → roots.Stands new.roots heading (Dsb pe dsb ∷ h))
      → (((a : ℕ) → node_in old.index (page_of a) ≡ None → marks_at m2 a ≡ None)
      → Leaves (view_of m2 old.index) (view_of new.map new.index) (is_held_by holding))
      → Meets old new (Dsb pe dsb) (Ok tt)
  dsb_meets may pass tracked new frame same pages taken move =
      meets_left laws (Dsb pe dsb) refl may frame same pages (λ heading h s fits. (
        pass.dsb heading h pe dsb,
        pass.dsb_limit h pe dsb,
        after_dsb (laws heading) s.told (hears_here heading h s) (completes_here heading h s) (view_of new.map new.index) fits
            (pass.dsb heading h pe dsb) (λ p. refl) (move (still_outside heading h s))
            (record { fresh = λ p. refl; null = λ p. refl })
            (record { tracked = tracked; known = λ p. refl; pages = refl }),
        taken heading h s.roots,
      ))
