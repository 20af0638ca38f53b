-- The trees after an event, which pages are fresh, and what places hold, in histories that are alike.
use Rattle.bbm_rules.proofs.Common.{◌≡◌, ℕ, ◌<◌, ◌&&◌, ◌||◌, not, Bool, true, false, cond, List, [], ◌∷◌, Option, Some}
use Rattle.bbm_rules.proofs.Common.{None, is_some, find, Contains, ◌++◌, ◌==◌, refl, sym, ◌∙◌, ap, inl, inr, is_valid}
use Rattle.bbm_rules.proofs.Common.{Heading, Event, Root, Write, keeps, Trust, noted, ValidWrite, last_valid, Noted}
use Rattle.bbm_rules.proofs.Common.{events_of, is_fresh, may_be_fresh, page_of, roots_of, Node, held_at, in_tree}
use Rattle.bbm_rules.proofs.Common.{next_of, node_below, value_of, written_places, map}
use Rattle.bbm_rules.proofs.Emptied.{seen_topped, wrote_topped}
use Rattle.bbm_rules.specs.Held.{empties_tables}
use Rattle.bbm_rules.specs.Notes.{topped}
use Rattle.bbm_histories.specs.HistorySteps.{wrote}
use Rattle.bbm_rules.specs.Mapped.{initialises, is_clean, is_mapped}
use Rattle.bbm_rules.specs.Tree.{tree}
use Rattle.bbm_histories.specs.TreeChanges.{Attaches, Through}
use Rattle.bbm_histories.specs.ValueChanges.{HoldsPresent}
use Rattle.bbm_alike.specs.Alike.{Alike, SamePatterns, TakesAlike}
use Rattle.bbm_alike.specs.KnownOfHistories.{Known}
use Rattle.bbm_alike.proofs.NotesAlike.{NotesAlike, notes_alike}
use Rattle.bbm_alike.proofs.HeldStep.{held_old, patterns_old}
use Rattle.bbm_alike.proofs.MappedAlike.{same_mapped}
use Rattle.bbm_alike.proofs.Quiet.{quiet_alike, unwritten}
use Rattle.bbm_alike.proofs.TreesAlike.{same_tree}

module _ (heading : Heading) (k : Known heading) (one other : Trust) (h h' : List Event) (a : Alike heading one other h h') where
  abbrev marks : List Noted
  marks = noted heading one h

  abbrev marks' : List Noted
  marks' = noted heading other h'

  abbrev notes : NotesAlike heading one other marks marks'
  notes = notes_alike heading k one other h h' a

  -- ---- an event attaches the same nodes in both

  through_alike : (places : List ℕ) (n m : Node) → Through heading one marks n places m → Through heading other marks' n places m
  through_alike [] n m t = (sym (a.fresh n.page) ∙ t.0, t.1)
  through_alike (place ∷ places) n m t = (
    sym (a.fresh n.page) ∙ t.0,
    t.1,
    t.2,
    ap (λ (v : ℕ). next_of n.kind n.level v) (sym (notes.values place)) ∙ t.3,
    through_alike places (node_below n place t.2) m t.4,
  )

  attaches_alike : (e : Event) (m : Node) → Attaches heading one marks e m → Attaches heading other marks' e m
  attaches_alike (Write pe place value) m l = record {
    parent = l.parent;
    is_parent = sym (notes.nodes (page_of place)) ∙ l.is_parent;
    empty = sym (notes.held l.parent place l.is_parent) ∙ l.empty;
    next = l.next;
    table = l.table;
    places = l.places;
    through = through_alike l.places (node_below l.parent place l.next) m l.through;
  }
  attaches_alike (Root pe kind lock page) m p = record {
    start = p.start;
    is_start = p.is_start;
    places = p.places;
    through = through_alike p.places p.start m p.through;
  }
  attaches_alike e m none = absurd none

  module _ (e : Event) (pes : 0 < heading.pes) (unbroken : keeps heading one (e ∷ h) ≡ true)
      (unbroken' : keeps heading other (e ∷ h') ≡ true) (t : TakesAlike heading one other h h' e)
      (values : (place : ℕ) → value_of (e ∷ h) place ≡ value_of (e ∷ h') place)
      (roots : roots_of (e ∷ h) ≡ roots_of (e ∷ h')) (places : written_places (e ∷ h) ≡ written_places (e ∷ h')) where
    abbrev now : List Noted
    now = noted heading one (e ∷ h)

    abbrev now' : List Noted
    now' = noted heading other (e ∷ h')

    events_alike : {X : Type 0} (f : List Event → X) → f (e ∷ h) ≡ f (e ∷ h') → f (events_of now) ≡ f (events_of now')
    events_alike f same = ap f (k.notes_keep_the_events one (e ∷ h))
        ∙ (same ∙ sym (ap f (k.notes_keep_the_events other (e ∷ h'))))

    -- ---- a page that the event attaches

    module _ (n : Node) (place : ℕ) (made : Attaches heading one marks e n) (inside : page_of place ≡ n.page) where
      present : HoldsPresent heading one now n place
      present = (k.fresh_content one).attached h e pes unbroken n place made inside

      present' : HoldsPresent heading other now' n place
      present' = (k.fresh_content other).attached h' e pes unbroken' n place (attaches_alike e n made) inside

      abbrev if_valid : ℕ → Option ℕ
      if_valid value = cond (is_valid n.kind n.level value) (Some value) None

      held_new : held_at heading one now n place ≡ held_at heading other now' n place
      held_new =
          present.holds
          ∙ (ap if_valid (events_alike (λ (es : List Event). value_of es place) (values place)) ∙ sym present'.holds)

      valid_where : (v : ℕ) → is_some (if_valid v) ≡ true → is_valid n.kind n.level v ≡ true
      valid_where v some = by (is_valid n.kind n.level v) some
        where
          by : (c : Bool) → is_some (cond c (Some v) None) ≡ true → c ≡ true
          by true s = refl
          by false s = s

      module _ (w w' : ValidWrite) (some : is_some (held_at heading one now n place) ≡ true)
          (last : last_valid n.kind n.level place now ≡ Some w) (last' : last_valid n.kind n.level place now' ≡ Some w') where
        valid : is_valid n.kind n.level (value_of (events_of now) place) ≡ true
        valid = valid_where (value_of (events_of now) place) (ap is_some (sym present.holds) ∙ some)

        valid' : is_valid n.kind n.level (value_of (events_of now') place) ≡ true
        valid' =
            ap (λ (v : ℕ). is_valid n.kind n.level v) (sym (events_alike (λ (es : List Event). value_of es place) (values place)))
            ∙ valid

        quiet : (x : List Noted) (u : ValidWrite) → is_valid n.kind n.level (value_of (events_of x) place) ≡ true
            → last_valid n.kind n.level place x ≡ Some u
            → (q v : ℕ) (m : Noted) (after before : List Noted) → u.since ≡ after ++ m ∷ before → m.event ≡ Write q place v → ⊥
        quiet x u live is q v m after before split =
            let l = k.last_valid.live n.kind n.level place x live in
            let same : l.0 ≡ u = let both : Some l.0 ≡ Some u = sym l.1 ∙ is in cc in
            l.3 q v m after before (ap (λ (y : ValidWrite). y.since) same ∙ split)

        written_one : (p q : ℕ) → wrote heading place p q w.since ≡ false
        written_one p q = unwritten heading place p q w.since (quiet now w valid last)

        written_other : (p q : ℕ) → wrote heading place p q w'.since ≡ false
        written_other p q = unwritten heading place p q w'.since (quiet now' w' valid' last')

        patterns_new : SamePatterns heading place one other w.since w'.since
        patterns_new =
            quiet_alike heading k place one other w.since w'.since written_one written_other
            (λ p. present.unseen w p last) (λ p. present'.unseen w' p last')

        tops_new : SamePatterns heading place one other (map topped w.since) (map topped w'.since)
        tops_new =
            quiet_alike heading k place one other (map topped w.since) (map topped w'.since)
            (λ p q. wrote_topped q place w.since ∙ written_one p q) (λ p q. wrote_topped q place w'.since ∙ written_other p q)
            (λ p. seen_topped heading place p w.since ∙ present.unseen w p last)
            (λ p. seen_topped heading place p w'.since ∙ present'.unseen w' p last')

    -- ---- any page

    pub held_step : (n : Node) (place : ℕ) → Contains (tree heading one now) n → page_of place ≡ n.page
        → held_at heading one now n place ≡ held_at heading other now' n place
    held_step n place there inside =
        elim ((k.one_position one).gained h e unbroken n there) [
          | inl old ↦ held_old heading k one other h h' pes a e t unbroken n place old there inside
          | inr made ↦ held_new n place made.0 inside
        ]

    pub patterns_step : (n : Node) (place : ℕ) (w w' : ValidWrite) → Contains (tree heading one now) n → page_of place ≡ n.page
        → is_some (held_at heading one now n place) ≡ true → last_valid n.kind n.level place now ≡ Some w
        → last_valid n.kind n.level place now' ≡ Some w' → SamePatterns heading place one other w.since w'.since
    patterns_step n place w w' there inside some last last' =
        elim ((k.one_position one).gained h e unbroken n there) [
          | inl old ↦ (patterns_old heading k one other h h' pes a e t unbroken n place old there inside w w' some last last').0
          | inr made ↦ patterns_new n place made.0 inside w w' some last last'
        ]

    pub tops_step : empties_tables heading.version ≡ true → (n : Node) (place : ℕ) (w w' : ValidWrite) → Contains (tree heading one now) n
        → page_of place ≡ n.page
        → is_some (held_at heading one now n place) ≡ true → last_valid n.kind n.level place now ≡ Some w
        → last_valid n.kind n.level place now' ≡ Some w' → SamePatterns heading place one other (map topped w.since) (map topped w'.since)
    tops_step late n place w w' there inside some last last' =
        elim ((k.one_position one).gained h e unbroken n there) [
          | inl old ↦ (patterns_old heading k one other h h' pes a e t unbroken n place old there inside w w' some last last').1 late
          | inr made ↦ tops_new n place made.0 inside w w' some last last'
        ]

    pub trees_step : tree heading one now ≡ tree heading other now'
    trees_step =
        same_tree heading one other now now' (events_alike roots_of roots) (events_alike written_places places)
        (λ n there place inside. held_step n place there inside)

    pub fresh_step : (page : ℕ) → is_fresh heading one now page ≡ is_fresh heading other now' page
    fresh_step page =
        ap (λ (b : Bool). may_be_fresh e page b && not (in_tree heading one now page)) (a.fresh page)
        ∙ ap (λ (ns : List Node). may_be_fresh e page (is_fresh heading other marks' page) && not (is_some (find (λ n. n.page == page) ns)))
        trees_step

    pub clean_step : (page : ℕ) → is_clean heading one now page ≡ is_clean heading other now' page
    clean_step page =
        ap (λ (b : Bool). (initialises page e || b) && not (is_mapped heading one now page)) (a.clean page)
        ∙ ap (λ (b : Bool). (initialises page e || is_clean heading other marks' page) && not b)
        (same_mapped heading one other now now' (events_alike written_places places) trees_step
        (λ n place there inside. held_step n place there inside) page)
