-- Pages that are initialised, become null pages or leave the trees, in a view and at the parts.
use Rattle.bbm_replay.proofs.Common.{broken, kept_next, View, Laws, Told, node_in, value_at, fresh_in, heading_of}
use Rattle.bbm_replay.proofs.Common.{null_in, kind_in_world, PageInUse, WrongWorld, Broken, TreeFault, step_fault}
use Rattle.bbm_replay.proofs.Common.{Rules, MayMeet, Meets, SameFrame, PartsStand, view_of, ReplayState, notes}
use Rattle.bbm_replay.proofs.Common.{PlaceMap, TreeIndex, marks_at, waits, Marks, Pends, StepFault, kept}
use Rattle.bbm_replay.proofs.Common.{NoMemory}
use Rattle.bbm_rules.proofs.Common.{◌≡◌, ℕ, Bool, true, cond, not, ◌==◌, ◌&&◌, ◌||◌, List, ◌∷◌, Option, Some, None}
use Rattle.bbm_rules.proofs.Common.{refl, sym, ◌∙◌, ap, fits_heading, Patterns, page_of, Heading, Event, Init, Null}
use Rattle.bbm_rules.proofs.Common.{Unroot, arith, length, ◌≤◌, false, Ok, Err, is_some, Pages, Answers, limit_of, S2, Node}
use Rattle.bbm_rules.proofs.Common.{page_in_use, subst}
use Rattle.bbm_events.specs.Heading.{nulls_everywhere}
use Rattle.bbm_tree_index.specs.Index.{known_in, pages_in}
use Rattle.bbm_replay_trees.specs.Told.{is_at}
use Rattle.bbm_tree_index.specs.HeldCores.{leaves}
use Rattle.bbm_tree_index.specs.IndexAgreement.{SharesNumbers}
use Rattle.bbm_tree_index.specs.IndexChanges.{TakesOut}
use Rattle.bbm_roots.specs.RootChanges as changes
use Rattle.bbm_roots.specs.RootJudgements as judges
use Rattle.bbm_roots.specs.RootsStand as roots
use Rattle.bbm_tree_index.specs.declared.fault.TreeFault.TheVariants as tree
use Rattle.bbm_replay.proofs.Moves.{Begins, Leaves, Nullifies, Same, tracked_alike}
use Rattle.bbm_replay.proofs.Aparts.{apart, apart_begins, apart_leaves, apart_nullifies, was_there}
use Rattle.bbm_replay.proofs.Entries.{carried}
use Rattle.bbm_replay.proofs.Quiet.{told_next}
use Rattle.bbm_replay.specs.Guarded.{Becomes, Guarded, Initialises}
use Rattle.bbm_unmapped.specs.Unmapped.{IsSame, free_in, may_map}
use Rattle.bbm_unmapped.specs.Unmapped as guard
use Rattle.bbm_page_map.specs.PageLists.{number_in}
use Rattle.bbm_tree_index.proofs.Numbered.{known_number}
use Rattle.bbm_rules.proofs.Common.{length-append}
use Rattle.std.proofs.Math.Nat.{add-zero}
use Rattle.std.specs.Prelude.{IfSome, ◌+◌, ◌++◌, [], if◌then◌else◌}
use Rattle.bbm_unmapped.specs.declared.unmapped.Unmapped.{Unmapped}
use Rattle.bbm_replay.proofs.Guarding.{guard_becomes, guard_same, guards_alike}
use Rattle.bbm_replay.proofs.Writing.{cores}
use Rattle.bbm_replay.proofs.Framing.{meets_broken, meets_err, meets_left, meets_ok, stands_guarded, stands_still}
use Rattle.bbm_replay.proofs.Judging.{found, init_is, init_limit, init_no_limit, null_is}
use Rattle.bbm_replay.proofs.Meeting.{answers}

none_anyway : {A : Type 0} (b : Bool) (m : Option A) → m ≡ None → cond b None m ≡ None
none_anyway b m k = grind arith

module _ {heading : Heading} (laws : Laws heading) {h : List Event} {old : View} (new : View) (t : Told heading h old)
    (pe page : ℕ) where
  pub after_init : fits_heading heading (Init pe page) ≡ true → broken heading Patterns h (Init pe page) ≡ None
      → Begins old new page → Told heading (Init pe page ∷ h) new
  after_init fits unbroken move =
      let e = Init pe page in
      let kept = kept_next heading Patterns h e t.kept unbroken in
      record {
        proper = t.proper;
        kept = kept;
        fit = rw (fits, t.fit) refl;
        values = laws.values.init h old new pe page t.values move.value;
        nodes = λ p. move.nodes p ∙ laws.nodes.others h old e (laws.proper t.proper) kept refl t.nodes p;
        fresh = laws.fresh.init h old new pe page kept t.fresh move.fresh;
        null = λ p. move.null p ∙ laws.pages.same_null h old e refl t.null p;
        known = laws.pages.known h old new pe page t.known move.known;
        pages = move.pages ∙ sym (laws.pages.count h old pe page t.known t.pages);
        tracked = λ p. move.tracked p ∙ ap (λ b. p == page || b) (t.tracked p) ∙ sym (move.known p);
        apart = apart_begins old new page t.apart move;
        entries = λ n a is.
            let was : old.node (page_of a) ≡ Some n = sym (move.nodes _) ∙ is in
            let off = apart old.node (page_of a) page n was move.outside in
            carried laws new t e n a was off.1 (move.value a ∙ ap (λ b. cond b 0 (old.value a)) off.0)
            (move.marks a ∙ ap (λ b. cond b None (old.marks a)) off.0) (λ q. move.pends q a off.0);
        outside = λ a is. move.marks a
            ∙ none_anyway (page_of a == page) (old.marks a) (t.outside a (sym (move.nodes _) ∙ is));
      }

  pub after_null : fits_heading heading (Null pe page) ≡ true → broken heading Patterns h (Null pe page) ≡ None
      → Nullifies old new page → Told heading (Null pe page ∷ h) new
  after_null fits unbroken move =
      let e = Null pe page in
      let kept = kept_next heading Patterns h e t.kept unbroken in
      told_next laws new t e fits unbroken refl move.tracking
      (λ a. move.map.value a ∙ laws.values.others h old e refl t.values a)
      (λ p. move.nodes p ∙ laws.nodes.others h old e (laws.proper t.proper) kept refl t.nodes p)
      (laws.fresh.null h old new pe page kept t.fresh move.fresh) (laws.pages.null h old new pe page t.null move.null)
      (apart_nullifies old new page t.apart move)
      (λ n a is. carried laws new t e n a (sym (move.nodes _) ∙ is) refl (move.map.value a) (move.map.marks a)
      (λ q. move.map.pends q a))
      (λ a is. move.map.marks a ∙ t.outside a (sym (move.nodes _) ∙ is))

  pub after_unroot : fits_heading heading (Unroot pe page) ≡ true → broken heading Patterns h (Unroot pe page) ≡ None
      → Leaves old new (λ m. not (m.root == page)) → Told heading (Unroot pe page ∷ h) new
  after_unroot fits unbroken move =
      let e = Unroot pe page in
      let kept = kept_next heading Patterns h e t.kept unbroken in
      told_next laws new t e fits unbroken refl move.tracking
      (λ a. move.value a ∙ laws.values.others h old e refl t.values a)
      (laws.nodes.unroot h old new pe page (laws.proper t.proper) kept t.nodes move.node)
      (λ p. move.roles.fresh p ∙ laws.fresh.others h old e kept refl refl refl t.fresh p)
      (λ p. move.roles.null p ∙ laws.pages.same_null h old e refl t.null p)
      (apart_leaves old new (λ m. not (m.root == page)) t.apart move)
      (λ n a is. carried laws new t e n a
      (was_there (λ m. not (m.root == page)) (old.node (page_of a)) n (sym (move.node _) ∙ is)).1 refl (move.value a)
      ((move.marks a).1 n is) (λ q. move.pends q a n is))
      (λ a is. (move.marks a).0 is)

-- whether a `null` under this header breaks the rule wrong-world
abbrev is_wrong_null : Heading → Bool
is_wrong_null heading = kind_in_world heading.world S2 && not (nulls_everywhere heading.version)

module _ (rules : (heading : Heading) → Rules heading) (old : ReplayState) (pe page : ℕ) where
  pub init_refused : (is_some (node_in old.index page) || null_in old.index page) ≡ true
      → Meets old old (Init pe page) (Err (Broken PageInUse page))
  init_refused used = meets_broken old (Init pe page) PageInUse page
      (λ heading h s. rw (init_is (rules heading) s.told pe page, used) refl)

  init_kept : (is_some (node_in old.index page) || null_in old.index page) ≡ false
      → (heading : Heading) (h : List Event) → PartsStand old heading h → broken heading Patterns h (Init pe page) ≡ None
  init_kept free heading h s = rw (init_is (rules heading) s.told pe page, free) refl

  pub null_world : is_wrong_null old.header ≡ true → Meets old old (Null pe page) (Err (Broken WrongWorld 0))
  null_world wrong = meets_broken old (Null pe page) WrongWorld 0 (λ heading h s.
      let k : is_wrong_null heading ≡ true = ap is_wrong_null (sym s.header) ∙ wrong in
      rw (null_is (rules heading) s.told pe page, k) refl)

  module _ (right : is_wrong_null old.header ≡ false) where
    -- by the rule on pages in use
    null_breaks : (heading : Heading) (h : List Event) → PartsStand old heading h → (o : Option ℕ)
        → page_in_use heading Patterns (notes heading h) (Null pe page) ≡ o
        → broken heading Patterns h (Null pe page) ≡ found PageInUse o None
    null_breaks heading h s o k =
        let right_here : is_wrong_null heading ≡ false = ap is_wrong_null (sym s.header) ∙ right in
        rw (null_is (rules heading) s.told pe page, right_here, k) refl

    pub null_unfresh : fresh_in old.index page ≡ false → Meets old old (Null pe page) (Err (Broken PageInUse page))
    null_unfresh k = meets_broken old (Null pe page) PageInUse page (λ heading h s. null_breaks heading h s (Some page)
        ((rules heading).on_pages.null_unfresh h (view_of old.map old.index) pe page s.told.fresh k))

    pub null_nonzero : ((a : ℕ) × (is_at page a ≡ true) × (value_at old.map a ≡ 0 → ⊥))
        → Meets old old (Null pe page) (Err (Broken PageInUse page))
    null_nonzero k = meets_broken old (Null pe page) PageInUse page (λ heading h s. null_breaks heading h s (Some page)
        ((rules heading).on_pages.null_used h (view_of old.map old.index) pe page k.0 s.told.values k.1 k.2))

-- how many pages are tracked, where the page may be one more
pub one_more : (known : Bool) (old new : List ℕ) (page : ℕ) → new ≡ (if known then old else old ++ page ∷ [])
    → length new ≡ length old + (if known then 0 else 1)
one_more true old new page k = ap length k ∙ sym (add-zero (length old))
one_more false old new page k = ap length k ∙ length-append old (page ∷ [])

-- whether a page is tracked by what is kept is whether it has a number there
known_here : (u : Unmapped) (page : ℕ) → is_some (number_in (guard.pages_in u) page) ≡ guard.known_in u page
unfolding guard.pages_in guard.known_in
known_here u page = known_number u.pages.entries page

-- what is kept comes to track the page as the index does
pub tracks_alike : (old : ReplayState) (heading : Heading) (h : List Event) → PartsStand old heading h
    → (ready : Option Unmapped) → Becomes IsSame old.unmapped ready → (page : ℕ) (pages : List ℕ)
    → pages ≡ (if known_in old.index page then pages_in old.index else pages_in old.index ++ page ∷ [])
    → IfSome ready (λ u. pages ≡ (if guard.known_in u page then guard.pages_in u else guard.pages_in u ++ page ∷ []))
tracks_alike old heading h s ready readied page pages is =
    by ready (guard_same old.unmapped ready old.index old.index heading h readied refl s.guarded)
  where
    by : (kept : Option Unmapped) → Guarded kept old.index heading h
        → IfSome kept (λ u. pages ≡ (if guard.known_in u page then guard.pages_in u else guard.pages_in u ++ page ∷ []))
    by None g = tt
    by (Some u) g =
        let known : known_in old.index page ≡ guard.known_in u page
        = sym (s.told.tracked page) ∙ ap (λ (ps : List ℕ). is_some (number_in ps page)) (s.numbers ∙ sym g.1)
        ∙ known_here u page in
        is ∙ cc (known, g.1)

-- there is no room for what is kept of the page
pub init_full : (old : ReplayState) (kept : Option Unmapped) (pe page : ℕ) → Becomes IsSame old.unmapped kept
    → Meets old (record old { unmapped = kept }) (Init pe page) (Err NoMemory)
init_full old kept pe page same = meets_err (Init pe page) NoMemory (λ heading h s. tt)
    (λ heading h s. stands_guarded old kept heading h
    (guard_same old.unmapped kept old.index old.index heading h same refl s.guarded) s) (λ heading h s. (refl, refl))

-- what is kept after an `init`
guard_init : {heading : Heading} → Laws heading → {h : List Event} {v : View} (old index : TreeIndex) (map : PlaceMap)
    (pe page : ℕ) → Told heading h v → Told heading (Init pe page ∷ h) (view_of map index)
    → (kept kept' : Option Unmapped) → Becomes (Initialises index map page) kept kept'
    → Guarded kept old heading h → Guarded kept' index heading (Init pe page ∷ h)
guard_init {heading} laws {h} old index map pe page t told kept kept' initialised guarded =
    guard_becomes (Initialises index map page) heading h (Init pe page ∷ h) old index kept kept'
    (λ u u' at is shares guards. (
      is.0,
      guards_alike heading (Init pe page ∷ h) (free_in u') (free_in u') (may_map u) (may_map u') (λ p. refl) is.2
          (laws.guards.init h (view_of map index) pe page (free_in u) (free_in u') (may_map u) (laws.proper t.proper)
          t.fit told.kept told.nodes (cores told) is.1 guards),
    )) initialised guarded

module _ (laws : (heading : Heading) → Laws heading) (rules : (heading : Heading) → Rules heading)
    (others : changes.OthersStand) (old : ReplayState) (map : PlaceMap) (index : TreeIndex)
    (same_heading : heading_of index ≡ heading_of old.index)
    (numbers : SharesNumbers old.index old.map → SharesNumbers index map) (unmapped : Option Unmapped)
    (pe page : ℕ) where
  abbrev became : ReplayState
  became = record old { map = map; index = index; unmapped = unmapped }

  frame : SameFrame old became
  frame = record { header = refl; index_header = same_heading; numbers = numbers }

  module _ (m : MayMeet old (Init pe page))
      (free : (is_some (node_in old.index page) || null_in old.index page) ≡ false) (ready : Option Unmapped)
      (readied : Becomes IsSame old.unmapped ready) where
    pub init_ok : ((known_in old.index page ≡ false) × (16384 ≤ length (pages_in old.index)) → ⊥)
        → Begins (view_of old.map old.index) (view_of map index) page
        → Becomes (Initialises index map page) ready unmapped → Meets old became (Init pe page) (Ok tt)
    init_ok room begins initialised = meets_ok (Init pe page) m frame (λ heading h s fits.
        let kept = init_kept rules old pe page free heading h s in
        let told = after_init (laws heading) (view_of map index) s.told pe page fits kept begins in (
          kept,
          init_no_limit (rules heading) s.told pe page room,
          told,
          others old.roots heading h (Init pe page) s.roots refl kept,
          guard_init (laws heading) old.index index map pe page s.told told ready unmapped initialised
              (guard_same old.unmapped ready old.index old.index heading h readied refl s.guarded),
        ))

    pub init_err : (fault : TreeFault)
        → (fault ≡ tree.Limit Pages → (known_in old.index page ≡ false) × (16384 ≤ length (pages_in old.index)))
        → ((fault ≡ tree.Limit Pages → ⊥) → fault ≡ tree.NoMemory)
        → Same (view_of old.map old.index) (view_of map index) → pages_in index ≡ pages_in old.index → unmapped ≡ ready
        → Meets old became (Init pe page) (Err (step_fault fault))
    init_err fault full else_none same pages unmapped_is = meets_err (Init pe page) (step_fault fault)
        (λ heading h s. by fault heading h s full else_none)
        (λ heading h s. stands_still laws old became frame same heading h s s.roots
        (subst (λ (x : Option Unmapped). Guarded x index heading h) (sym unmapped_is)
        (guard_same old.unmapped ready old.index index heading h readied pages s.guarded)))
        (λ heading h s. (refl, refl))
      where
        by : (f : TreeFault) (heading : Heading) (h : List Event) → PartsStand old heading h
            → (f ≡ tree.Limit Pages → (known_in old.index page ≡ false) × (16384 ≤ length (pages_in old.index)))
            → ((f ≡ tree.Limit Pages → ⊥) → f ≡ tree.NoMemory)
            → Answers (Err (step_fault f)) (broken heading Patterns h (Init pe page)) (limit_of h (Init pe page))
        by tree.NoMemory heading h s full none = tt
        by (tree.Limit Pages) heading h s full none = (
          init_kept rules old pe page free heading h s,
          init_limit (rules heading) s.told pe page (full refl).0 (full refl).1,
        )
        by f heading h s full none = let bad : f ≡ tree.NoMemory = none (λ e. absurd cc) in absurd cc

  pub null_ok : MayMeet old (Null pe page) → is_wrong_null old.header ≡ false → fresh_in old.index page ≡ true
      → ((a : ℕ) → is_at page a ≡ true → value_at old.map a ≡ 0)
      → Nullifies (view_of old.map old.index) (view_of map index) page → pages_in index ≡ pages_in old.index
      → unmapped ≡ old.unmapped → Meets old became (Null pe page) (Ok tt)
  null_ok m right fresh zero move pages same =
      meets_left laws (Null pe page) refl m frame same pages (λ heading h s fits.
      let kept = null_breaks rules old pe page right heading h s None ((rules heading).on_pages.null_unused h
      (view_of old.map old.index) pe page s.told.fit s.told.fresh s.told.values fresh zero) in (
        kept,
        (rules heading).limits.others h (Null pe page) refl,
        after_null (laws heading) (view_of map index) s.told pe page fits kept move,
        others old.roots heading h (Null pe page) s.roots refl kept,
      ))

pub free_parts : (o : Option Node) (b : Bool) → (is_some o || b) ≡ false → (o ≡ None) × (b ≡ false)
free_parts o b k = grind arith

-- what stays doesn't leave
stays_there : (keeps : Node → Bool) (o : Option Node) (n : Node) → kept keeps o ≡ Some n → leaves keeps o ≡ false
stays_there keeps o n k = grind arith

goes : (keeps : Node → Bool) (o : Option Node) (m : Option Marks) → kept keeps o ≡ None → (o ≡ None → m ≡ None)
    → cond (leaves keeps o) None m ≡ None
goes keeps o m k whole = grind arith

pub leaves_of : (old new : TreeIndex) (before after : PlaceMap) (keeps : Node → Bool)
    → ((a : ℕ) → node_in old (page_of a) ≡ None → marks_at before a ≡ None) → TakesOut keeps old new before after
    → Leaves (view_of before old) (view_of after new) keeps
leaves_of old new before after keeps outside out =
    let node = out.trees.node in
    record {
      node = node;
      value = out.map.values;
      marks = λ a. (
        (λ none. out.map.marks a ∙ goes keeps (node_in old (page_of a)) (marks_at before a) (sym (node _) ∙ none) (outside a)),
        (λ n is. out.map.marks a
            ∙ ap (λ b. cond b None (marks_at before a)) (stays_there keeps (node_in old (page_of a)) n (sym (node _) ∙ is))),
      );
      pends = λ q a n is b c p. ap (λ (x : Pends). waits x b c p)
          (out.map.pends q a (stays_there keeps (node_in old (page_of a)) n (sym (node _) ∙ is)));
      roles = record { fresh = out.trees.fresh; null = out.trees.null };
      tracking = record {
        tracked = tracked_alike before after out.map.pages;
        known = out.tracked.known;
        pages = ap length out.tracked.pages;
      };
    }

module _ (laws : (heading : Heading) → Laws heading) (rules : (heading : Heading) → Rules heading) (old : ReplayState)
    (pe page : ℕ) (m : MayMeet old (Unroot pe page)) where
  pub unroot_err : (fault : StepFault)
      → ((heading : Heading) (h : List Event) → roots.Stands old.roots heading h
      → judges.Judges (Err fault) (broken heading Patterns h (Unroot pe page))) → Meets old old (Unroot pe page) (Err fault)
  unroot_err fault judged = meets_err (Unroot pe page) fault (λ heading h s.
      answers (Err fault) _ _ (judged heading h s.roots) ((rules heading).limits.others h (Unroot pe page) refl))
      (λ heading h s. s) (λ heading h s. (refl, refl))

  pub unroot_ok : (new : ReplayState)
      → ((heading : Heading) (h : List Event) → roots.Stands old.roots heading h
      → broken heading Patterns h (Unroot pe page) ≡ None)
      → SameFrame old new → new.unmapped ≡ old.unmapped → pages_in new.index ≡ pages_in old.index
      → ((heading : Heading) (h : List Event) → PartsStand old heading h
      → Leaves (view_of old.map old.index) (view_of new.map new.index) (λ n. not (n.root == page)))
      → ((heading : Heading) (h : List Event) → roots.Stands old.roots heading h
      → broken heading Patterns h (Unroot pe page) ≡ None → roots.Stands new.roots heading (Unroot pe page ∷ h))
      → Meets old new (Unroot pe page) (Ok tt)
  unroot_ok new unbroken frame same pages move taken =
      meets_left laws (Unroot pe page) refl m frame same pages (λ heading h s fits.
      let kept = unbroken heading h s.roots in (
        kept,
        (rules heading).limits.others h (Unroot pe page) refl,
        after_unroot (laws heading) (view_of new.map new.index) s.told pe page fits kept (move heading h s),
        taken heading h s.roots kept,
      ))
