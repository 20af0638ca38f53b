-- A root that is declared, at the parts.
use Rattle.bbm_replay.proofs.Common.{broken, marks_at, pends_at, value_at, fresh_in, heading_of, Judging, IsIdle, Kind}
use Rattle.bbm_replay.proofs.Common.{kind_in_world, WrongWorld, NotFresh, BadKind, GlobalUser, PageInUse, StepFault}
use Rattle.bbm_replay.proofs.Common.{Broken, Limit, NoMemory, PlaceMap, TreeIndex, TreeFault, notes}
use Rattle.bbm_roots.specs.declared.roots.Roots.{Roots as TheRoots}
use Rattle.bbm_replay.proofs.Common.{step_fault, Laws, Rules, MayMeet, Meets, SameFrame, PartsStand, view_of}
use Rattle.bbm_replay.proofs.Common.{ReplayState, TableMapped, kept_next}
use Rattle.bbm_rules.proofs.Common.{◌≡◌, ℕ, true, false, not, List, ◌∷◌, length, Option, Some, None, filter, Result, Ok}
use Rattle.bbm_rules.proofs.Common.{Err, refl, sym, ◌∙◌, ap, subst, nat_le, Roots, Answers, Patterns, limit_of, if_so}
use Rattle.bbm_rules.proofs.Common.{least, Heading, Event, Root, pages_from, root_pages, roots_of, bad_kind}
use Rattle.bbm_rules.proofs.Common.{global_user, page_count, Contains, not_fresh, Node, nodes_of_root, Breach}
use Rattle.bbm_tree_index.specs.Paths.{starts_of}
use Rattle.bbm_tree_index.specs.Prepared.{AreNamedFresh}
use Rattle.bbm_tree_index.specs.declared.role.Attach.{Attach}
use Rattle.bbm_tree_index.specs.Attaching as index
use Rattle.bbm_tree_index.specs.IndexChanges as changes
use Rattle.bbm_tree_index.specs.declared.role.Attach.TheVariants as attach
use Rattle.bbm_roots.specs.RootsStand as roots
use Rattle.bbm_rules.specs.Rules.{table_mapped}
use Rattle.bbm_tree_index.specs.Index.{pages_in}
use Rattle.bbm_tree_index.specs.LeastPages.{LeastOf}
use Rattle.bbm_tree_index.specs.Outputs.{CoversAttached}
use Rattle.bbm_replay_trees.specs.Guarding.{Guards}
use Rattle.bbm_replay.specs.Guarded.{Becomes, CoversListed, IsAttached, IsBad, Passes, Refuses}
use Rattle.bbm_unmapped.specs.Unmapped.{free_in, may_map}
use Rattle.bbm_tree_index.specs.declared.standing.AttachedPage.{AttachedPage}
use Rattle.bbm_unmapped.specs.declared.unmapped.Unmapped.{Unmapped}
use Rattle.bbm_replay.proofs.Guarding.{guard_attached, passes, refuses}
use Rattle.bbm_replay.proofs.RootPages.{named_fresh}
use Rattle.bbm_replay.proofs.Moves.{Attaches, SameMap, SameTracked}
use Rattle.bbm_replay.proofs.Cases.{either}
use Rattle.bbm_replay.proofs.Framing.{meets_err, meets_ok, meets_broken}
use Rattle.bbm_replay.proofs.Growing.{after_root}
use Rattle.bbm_replay.proofs.Judging.{all_pass, earlier_kept, found, refused, root_is}
use Rattle.bbm_replay.proofs.Meeting.{stands_same, with_roots}

-- the nodes of the pages of a root
abbrev pub starts : Heading → Kind → ℕ → List Node
starts heading kind page = nodes_of_root heading (record { page = page; kind = kind; lock = None })

-- the first of its pages that isn't fresh
abbrev pub unfresh : ReplayState → Kind → ℕ → Option ℕ
unfresh old kind page =
    least (filter (λ p. not (fresh_in old.index p)) (pages_from page (page_count old.header.world kind)))

-- where there is none, each is fresh
pub named : (old : ReplayState) (kind : Kind) (page : ℕ) → kind_in_world old.header.world kind ≡ true
    → unfresh old kind page ≡ None → {heading : Heading} {h : List Event} → PartsStand old heading h
    → AreNamedFresh old.index (attach.Root kind page)
named old kind page right none {heading} s k n inside =
    let here : least (filter (λ p. not (fresh_in old.index p)) (root_pages heading.world kind page)) ≡ None
    = cc (right, s.header, none) in
    named_fresh (fresh_in old.index) kind _ page _ (root_pages heading.world kind page) here n
    (subst (λ (x : Heading). Contains (starts x kind page) n) s.index_header inside)

module _ (laws : (heading : Heading) → Laws heading) (rules : (heading : Heading) → Rules heading) (old : ReplayState)
    (pe page : ℕ) (kind : Kind) (lock : Option ℕ) where
  abbrev e : Event
  e = Root pe kind lock page

  -- what the index answers of the pages
  abbrev pub JudgedAs : Result (Unit {0}) TreeFault → Type 0
  JudgedAs r = index.Judges (fresh_in old.index) (value_at old.map) (starts (heading_of old.index) kind page) true r

  pub root_world : kind_in_world old.header.world kind ≡ false → Meets old old e (Err (Broken WrongWorld 0))
  root_world wrong = meets_broken old e WrongWorld 0 (λ heading h s.
      let k : kind_in_world heading.world kind ≡ false = cc (wrong, s.header) in
      rw (root_is (rules heading) s.told pe page kind lock, k) refl)

  module _ (right : kind_in_world old.header.world kind ≡ true) where
    -- what is left where the others are kept
    abbrev last : Heading → List Event → Option Breach
    last heading h = found TableMapped (table_mapped heading Patterns (notes heading h) e) None

    module _ (heading : Heading) (h : List Event) (s : PartsStand old heading h) where
      root_breaks : broken heading Patterns h e
          ≡ found NotFresh (not_fresh heading Patterns (notes heading h) e)
          (found BadKind (bad_kind heading Patterns (notes heading h) e)
          (found GlobalUser (global_user heading Patterns (notes heading h) e)
          (found PageInUse (unfresh old kind page) (last heading h))))
      root_breaks =
          let k : kind_in_world heading.world kind ≡ true = cc (right, s.header) in
          rw (s.header, root_is (rules heading) s.told pe page kind lock, k) refl

      judging : Judging (fresh_in old.index) (value_at old.map) (starts (heading_of old.index) kind page) heading h true e
      judging = subst (λ (x : Heading). Judging (fresh_in old.index) (value_at old.map) (starts x kind page) heading h true e)
          (sym s.index_header) ((rules heading).judging.root h (view_of old.map old.index) pe page kind lock
          ((laws heading).proper s.told.proper) s.told.fit s.told.fresh s.told.values)

    pub root_fault : (fault : TreeFault) → JudgedAs (Err fault) → Meets old old e (Err (step_fault fault))
    root_fault fault k = meets_err e (step_fault fault) (λ heading h s. refused (judging heading h s)
        (found PageInUse (unfresh old kind page) (last heading h)) (limit_of h e) (root_breaks heading h s) fault k)
        (λ heading h s. s) (λ heading h s. (refl, refl))

    module _ (fine : JudgedAs (Ok tt)) where
      passed : (heading : Heading) (h : List Event) → PartsStand old heading h → (o : Option ℕ)
          → unfresh old kind page ≡ o
          → broken heading Patterns h e ≡ found PageInUse o (last heading h)
      passed heading h s o k =
          let pass = all_pass (judging heading h s) fine in
          rw (root_breaks heading h s, pass.0, pass.1, pass.2, k) refl

      pub root_used : (at : ℕ) → unfresh old kind page ≡ Some at → Meets old old e (Err (Broken PageInUse at))
      root_used at k = meets_broken old e PageInUse at (λ heading h s. passed heading h s (Some at) k)

      module _ (none : unfresh old kind page ≡ None) where
        abbrev pages_of_root : List Node
        pages_of_root = starts (heading_of old.index) kind page

        module _ (heading : Heading) (h : List Event) (s : PartsStand old heading h) where
          judged : (u : Unmapped) (o : Option ℕ) → heading.words.isolated ≡ true
              → Guards heading h (free_in u) (may_map u) → LeastOf (IsBad old.index old.map pages_of_root u) o
              → table_mapped heading Patterns (notes heading h) e ≡ o
          judged u o word guards least =
              (rules heading).tables.root h (view_of old.map old.index) pe page kind lock (free_in u) (may_map u) o word
              ((laws heading).proper s.told.proper) s.told.fit s.told.kept
              (earlier_kept (rules heading) h e _ refl refl (passed heading h s None none)) s.told.nodes s.told.fresh
              s.told.values guards
              (subst (λ (x : Heading). LeastOf (IsBad old.index old.map (starts x kind page) u) o) s.index_header least)

        -- the rule on table pages is broken
        pub root_bad : (fault : StepFault) → Refuses old.index old.map pages_of_root old.unmapped fault
            → Meets old old e (Err fault)
        root_bad fault refused = meets_err e fault (λ heading h s.
            refuses heading h e old.index old.map pages_of_root ((rules heading).tables.off h e) (judged heading h s)
            old.unmapped fault (limit_of h e) refused s.guarded (passed heading h s None none))
            (λ heading h s. s) (λ heading h s. (refl, refl))

      module _ (none : unfresh old kind page ≡ None) (pages : List AttachedPage)
          (pass : Passes old.index old.map (starts (heading_of old.index) kind page) old.unmapped pages)
          (ready : TheRoots) (same : (heading : Heading) (h : List Event)
          → roots.Stands old.roots heading h → roots.Stands ready heading h) where
        unbroken : (heading : Heading) (h : List Event) → PartsStand old heading h → broken heading Patterns h e ≡ None
        unbroken heading h s =
            passed heading h s None none ∙ ap (λ o. found TableMapped o None)
            (passes heading h e old.index old.map (pages_of_root none) ((rules heading).tables.off h e)
            (judged none heading h s) old.unmapped pages pass s.guarded)

        -- there is no room for the root
        pub root_full : (fault : StepFault)
            → ((heading : Heading) (h : List Event) → roots.Stands old.roots heading h
            → (fault ≡ Limit Roots) → limit_of h e ≡ Some Roots)
            → ((fault ≡ Limit Roots → ⊥) → fault ≡ NoMemory) → Meets old (with_roots old ready) e (Err fault)
        root_full fault full else_none = meets_err e fault
            (λ heading h s. by fault heading h s (full heading h s.roots) else_none)
            (λ heading h s. stands_same old ready heading h s (same heading h s.roots)) (λ heading h s. (refl, refl))
          where
            by : (f : StepFault) (heading : Heading) (h : List Event) → PartsStand old heading h
                → (f ≡ Limit Roots → limit_of h e ≡ Some Roots) → ((f ≡ Limit Roots → ⊥) → f ≡ NoMemory)
                → Answers (Err f) (broken heading Patterns h e) (limit_of h e)
            by NoMemory heading h s full else_none = tt
            by (Limit Roots) heading h s full else_none = (unbroken heading h s, full refl)
            by f heading h s full else_none = let bad : f ≡ NoMemory = else_none (λ k. absurd cc) in absurd cc

        -- there is, and the pages are attached
        pub root_ok : (new : ReplayState) → MayMeet old e → SameFrame old new
            → ((heading : Heading) (h : List Event) → roots.Stands old.roots heading h → limit_of h e ≡ Some Roots → ⊥)
            → SameMap (view_of old.map old.index) (view_of new.map new.index)
            → Attaches (view_of old.map old.index) (view_of new.map new.index) (starts (heading_of old.index) kind page)
            → ((q a : ℕ) → marks_at new.map a ≡ None → IsIdle (pends_at new.map q a))
            → ((heading : Heading) (h : List Event) → roots.Stands ready heading h → broken heading Patterns h e ≡ None
            → roots.Stands new.roots heading (e ∷ h)) → pages_in new.index ≡ pages_in old.index
            → Becomes (CoversListed old.map pages) old.unmapped new.unmapped → Meets old new e (Ok tt)
        root_ok new m frame room map attached idle taken tracked covers = meets_ok e m frame (λ heading h s fits.
            let kept = unbroken heading h s in (
              kept,
              either (nat_le 1024 (length (roots_of h)))
                  (λ k. absurd (room heading h s.roots (ap (λ b. if_so b Roots) k))) (λ k. ap (λ b. if_so b Roots) k),
              after_root (laws heading) (view_of new.map new.index) s.told pe page kind lock fits kept map
                  (subst (λ (x : Heading). Attaches (view_of old.map old.index) (view_of new.map new.index)
                  (starts x kind page)) s.index_header attached) idle,
              taken heading h (same heading h s.roots) kept,
              guard_attached heading h (e ∷ h) old.index new.index old.map (starts (heading_of old.index) kind page)
                  tracked (λ u u' c guards. (laws heading).guards.root h (view_of old.map old.index) pe page kind lock
                  (free_in u) (free_in u') (may_map u) (may_map u') ((laws heading).proper s.told.proper) s.told.fit
                  (kept_next heading Patterns h e s.told.kept kept) s.told.nodes s.told.fresh s.told.values
                  (subst (λ (x : Heading). CoversAttached (IsAttached old.index old.map (starts x kind page))
                  (value_at old.map) (free_in u) (free_in u') (may_map u) (may_map u')) s.index_header c) guards)
                  old.unmapped new.unmapped pages pass covers s.guarded,
            ))

-- what was attached, in the words of the laws
pub attaches_of : (old new : TreeIndex) (map map' : PlaceMap) (at : Attach) → changes.Attaches (value_at map) at old new
    → SameTracked (view_of map old) (view_of map' new) → Attaches (view_of map old) (view_of map' new) (starts_of old at)
attaches_of old new map map' at attached tracking =
    record { node = attached.node; fresh = attached.fresh; null = attached.null; tracking = tracking }
