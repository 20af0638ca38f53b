-- A write at a place of no tree, at the parts.
use Rattle.bbm_replay.proofs.Common.{node_in, broken, marks_at, pends_at, value_at, fresh_in, null_in, NullWritten}
use Rattle.bbm_replay.proofs.Common.{NotFresh, RewrittenFresh, Broken, IsIdle, Pends, PlaceMap, Puts, waits, Laws}
use Rattle.bbm_replay.proofs.Common.{Rules, MayMeet, Meets, PartsStand, view_of, ReplayState, kept_next}
use Rattle.bbm_rules.proofs.Common.{◌≡◌, ℕ, ◌%◌, Bool, true, false, not, ◌&&◌, ◌||◌, ◌==◌, List, ◌∷◌, None, Some, Ok, Err}
use Rattle.bbm_rules.proofs.Common.{refl, ◌∙◌, ap, Patterns, if_so, page_of, Heading, Event, Breach, Write, Option}
use Rattle.std.proofs.Math.Bool.{and_assoc}
use Rattle.bbm_entry_state.specs.declared.state.EntryState.TheVariants as state
use Rattle.bbm_roots.specs.RootChanges as changes
use Rattle.bbm_replay.specs.Guarded.{Guarded}
use Rattle.bbm_unmapped.specs.Unmapped.{free_in, may_map}
use Rattle.bbm_unmapped.specs.declared.unmapped.Unmapped.{Unmapped}
use Rattle.bbm_replay.proofs.Framing.{meets_ok, meets_broken}
use Rattle.bbm_replay.proofs.Moves.{Writes, tracked_alike}
use Rattle.bbm_replay.proofs.Judging.{found, write_is}
use Rattle.bbm_replay.proofs.Unbroken.{leaves_unbroken}
use Rattle.bbm_replay.proofs.Writing.{after_write_outside}

-- what the rules on pages and values come to: whether the page is null, whether it is fresh, and whether the value of
-- the place has bit 0 set and changes
abbrev verdict : ℕ → ℕ → Bool → Bool → Bool → Option Breach
verdict page place null fresh rewritten = found NullWritten (if_so null place)
    (found NotFresh (if_so (not (fresh || null)) page) (found RewrittenFresh (if_so (fresh && rewritten) place) None))

module _ (laws : (heading : Heading) → Laws heading) (rules : (heading : Heading) → Rules heading)
    (old : ReplayState) (pe place v : ℕ) (m : MayMeet old (Write pe place v))
    (away : node_in old.index (page_of place) ≡ None) where
  abbrev page : ℕ
  page = page_of place

  abbrev rewritten : Bool
  rewritten = value_at old.map place % 2 == 1 && not (value_at old.map place == v)

  module _ (heading : Heading) (h : List Event) (s : PartsStand old heading h) where
    write_breaks : broken heading Patterns h (Write pe place v)
        ≡ verdict page place (null_in old.index page) (fresh_in old.index page) rewritten
    write_breaks =
        let view = view_of old.map old.index in
        let out = (rules heading).writes.outside h view pe place v s.told.nodes away in
        let bare = (rules heading).unattached.outside h view pe place v s.told.nodes s.told.fresh s.told.null away in
        let null = (rules heading).writes.null h view pe place v s.told.null in
        let again = (rules heading).writes.rewritten h view pe place v s.told.fresh s.told.values
        ∙ ap (λ b. if_so b place) (and_assoc (fresh_in old.index page) (value_at old.map place % 2 == 1)
        (not (value_at old.map place == v))) in
        let table = (rules heading).tables.outside h view pe place v s.told.nodes away in
        rw (write_is (rules heading) h pe place v, out.0, null, out.1, out.2, bare.1, again, bare.2, bare.3, table) refl

    -- what is kept after it
    guard_outside : broken heading Patterns h (Write pe place v) ≡ None → (kept : Option Unmapped)
        → Guarded kept old.index heading h → Guarded kept old.index heading (Write pe place v ∷ h)
    guard_outside unbroken None g = g
    guard_outside unbroken (Some u) g = (
      g.0,
      g.1,
      (laws heading).guards.outside h (view_of old.map old.index) pe place v (free_in u) (may_map u)
          ((laws heading).proper s.told.proper) (kept_next heading Patterns h (Write pe place v) s.told.kept unbroken)
          s.told.nodes away g.2,
    )

  module _ (fresh : fresh_in old.index page ≡ false) where
    pub outside_null : null_in old.index page ≡ true → Meets old old (Write pe place v) (Err (Broken NullWritten place))
    outside_null null = meets_broken old (Write pe place v) NullWritten place
        (λ heading h s. rw (write_breaks heading h s, null) refl)

    pub outside_unfresh : null_in old.index page ≡ false → Meets old old (Write pe place v) (Err (Broken NotFresh page))
    outside_unfresh real = meets_broken old (Write pe place v) NotFresh page
        (λ heading h s. rw (write_breaks heading h s, real, fresh) refl)

  module _ (fresh : fresh_in old.index page ≡ true) where
    real : null_in old.index page ≡ false
    real = m.2.told.apart.fresh_not_null page fresh

    pub outside_rewritten : rewritten ≡ true → Meets old old (Write pe place v) (Err (Broken RewrittenFresh place))
    outside_rewritten k = meets_broken old (Write pe place v) RewrittenFresh place
        (λ heading h s. rw (write_breaks heading h s, real, fresh, k) refl)

    module _ (k : rewritten ≡ false) (others : changes.OthersStand) (map : PlaceMap) (put : Puts v place old.map map)
        (marks : (a : ℕ) → marks_at map a ≡ marks_at old.map a)
        (pends : (q a : ℕ) → pends_at map q a ≡ pends_at old.map q a)
        (idle : (q a : ℕ) → marks_at map a ≡ None → IsIdle (pends_at map q a)) where
      pub outside_ok : Meets old (record old { map = map }) (Write pe place v) (Ok tt)
      outside_ok =
          let whole = m.2.told.outside place away in
          let left = leaves_unbroken old.map map pe place v whole marks pends idle state.Clean refl in
          meets_ok (Write pe place v) m (record { header = refl; index_header = refl; numbers = λ n. put.pages ∙ n }) (λ heading h s fits.
          let kept : broken heading Patterns h (Write pe place v) ≡ None = rw (write_breaks heading h s, real, fresh, k) refl in
          let move : Writes (view_of old.map old.index) (view_of map old.index) place v state.Clean = record {
            value = put.values;
            marks = left.marks;
            pends = λ q a k b c p. ap (λ (x : Pends). waits x b c p) (left.pends q a k);
            dropped = left.dropped;
          } in (
            kept,
            (rules heading).limits.others h (Write pe place v) refl,
            after_write_outside (laws heading) s.told pe move fits kept (λ p. refl)
                (record { tracked = tracked_alike old.map map put.pages; known = λ p. refl; pages = refl }) idle (λ p. refl) (λ p. refl) away refl
                ((rules heading).unattached.outside h (view_of old.map old.index) pe place v s.told.nodes s.told.fresh
                s.told.null away).0,
            others old.roots heading h (Write pe place v) s.roots refl kept,
            guard_outside heading h s kept old.unmapped s.guarded,
          ))
