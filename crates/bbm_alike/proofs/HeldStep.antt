-- What a place of a tree holds after an event, and its patterns, in histories that are alike: where its page was in a
-- tree before and is so still.
use Rattle.bbm_rules.proofs.Common.{◌≡◌, ℕ, zero, suc, ◌+◌, ◌<◌, ◌≤◌, ◌&&◌, ◌||◌, Bool, true, false, cond, ◌==◌, List}
use Rattle.bbm_rules.proofs.Common.{[], ◌∷◌, ◌++◌, map, Option, Some, None, is_some, option_and_then, Contains, refl}
use Rattle.bbm_rules.proofs.Common.{sym, ◌∙◌, ap, subst, inl, inr, arith, true≢false, or_left, or_right, same_truth}
use Rattle.bbm_rules.proofs.Common.{every_same, every_wider, Kind, is_valid, Barrier, Heading, Event, Init, Write, Dsb, Trust}
use Rattle.bbm_rules.proofs.Common.{keeps, cleansed, cover_at, note, noted, ValidWrite, cleansed_everywhere, held}
use Rattle.bbm_rules.proofs.Common.{last_valid, last_valid_after, later, Noted, page_of, Above, Node, held_at, next_of}
use Rattle.bbm_rules.proofs.Common.{node_below, contains_cases}
use Rattle.bbm_rules.proofs.TreeLaw.{table_level}
use Rattle.bbm_rules.specs.Cleansing.{above}
use Rattle.bbm_rules.specs.Covers.{top_at}
use Rattle.bbm_rules.specs.Held.{emptied, empties_tables}
use Rattle.bbm_rules.specs.Notes.{topped}
use Rattle.bbm_rules.specs.PatternSentences.{EmptyAbove, IsAbove}
use Rattle.bbm_rules.specs.Tree.{tree}
use Rattle.bbm_histories.specs.ClaimSteps.{cleansed_under}
use Rattle.bbm_histories.specs.HistorySteps.{held_after}
use Rattle.bbm_histories.specs.TreeChanges.{InTreeAfterDsb}
use Rattle.bbm_alike.specs.Alike.{Alike, SamePatterns, TakesAlike, Unswept}
use Rattle.bbm_alike.specs.KnownOfHistories.{Known}
use Rattle.bbm_alike.proofs.CoverAlike.{cover_alike, top_alike}
use Rattle.bbm_alike.proofs.PatternsStep.{cleansed_before, patterns_step}

-- ---- the last valid write

-- the value of the last valid write, unless the place is cleansed at every PE or emptied
abbrev pub kept : Heading → Trust → Bool → ℕ → (ValidWrite → List Noted) → Option ValidWrite → Option ℕ
kept heading trust gone place since o =
    option_and_then (λ w. cond (gone || cleansed_everywhere heading trust place (since w)) None (Some w.value)) o

pub from_later : (n : Noted) (o : Option ValidWrite) (w : ValidWrite) → later n o ≡ Some w
    → (u : ValidWrite) × (o ≡ Some u) × (w.since ≡ n ∷ u.since)
from_later n None w e = cc
from_later n (Some u) w e =
    let both : record { value = u.value; since = n ∷ u.since } ≡ w = cc in
    (u, refl, sym (ap (λ (x : ValidWrite). x.since) both))

-- a place that holds something has a last valid write of that value
pub last_of : (heading : Heading) (trust : Trust) (gone : Bool) (place value : ℕ) (o : Option ValidWrite)
    → kept heading trust gone place (λ w. w.since) o ≡ Some value
    → (w : ValidWrite) × (o ≡ Some w) × (w.value ≡ value)
last_of heading trust gone place value None e = cc
last_of heading trust gone place value (Some w) e = (w, refl, by (gone || cleansed_everywhere heading trust place w.since) e)
  where
    by : (c : Bool) → cond c None (Some w.value) ≡ Some value → w.value ≡ value
    by true e = cc
    by false e = cc

module _ (heading : Heading) (k : Known heading) (trust : Trust) (place : ℕ) (n : Noted) where
  -- what held nothing holds nothing after a DSB
  none_stays : (gone gone' : Bool) → (gone ≡ true → gone' ≡ true) → (o : Option ValidWrite)
      → kept heading trust gone place (λ w. w.since) o ≡ None
      → kept heading trust gone' place (λ w. n ∷ w.since) o ≡ None
  none_stays gone gone' still None e = refl
  none_stays gone gone' still (Some w) e = by (cleansed_everywhere heading trust place w.since) refl gone refl e
    where
      wider : (p : ℕ) → cleansed heading trust place p w.since ≡ true → cleansed heading trust place p (n ∷ w.since) ≡ true
      wider p c = go (cleansed heading trust place p (n ∷ w.since)) refl
        where
          go : (d : Bool) → cleansed heading trust place p (n ∷ w.since) ≡ d → d ≡ true
          go true is = refl
          go false is = absurd (true≢false (sym c ∙ cleansed_before heading k trust place p n w.since is))

      by : (c : Bool) → cleansed_everywhere heading trust place w.since ≡ c → (d : Bool) → gone ≡ d
          → cond (d || c) None (Some w.value) ≡ None
          → cond (gone' || cleansed_everywhere heading trust place (n ∷ w.since)) None (Some w.value) ≡ None
      by true is d g e =
          ap (λ (c : Bool). cond c None (Some w.value))
          (or_right gone' (cleansed_everywhere heading trust place (n ∷ w.since))
          (every_wider heading.pes (λ p. cleansed heading trust place p w.since)
          (λ p. cleansed heading trust place p (n ∷ w.since)) wider is))
      by false is true g e =
          ap (λ (c : Bool). cond c None (Some w.value))
          (or_left gone' (cleansed_everywhere heading trust place (n ∷ w.since)) (still g))
      by false is false g e = cc

-- an event that is no DSB leaves what is cleansed
still_cleansed : (heading : Heading) (k : Known heading) (trust : Trust) (place p : ℕ) (n : Noted) (since : List Noted)
    → ((q : ℕ) (dsb : Barrier) → n.event ≡ Dsb q dsb → ⊥)
    → cleansed heading trust place p (n ∷ since) ≡ cleansed heading trust place p since
still_cleansed heading k trust place p n since other =
    (k.claim_steps trust).cleansed place p n since ∙ by n.event other
  where
    by : (e : Event) → ((q : ℕ) (dsb : Barrier) → e ≡ Dsb q dsb → ⊥)
        → cleansed_under heading place p trust n.position e since ≡ cleansed heading trust place p since
    by (Dsb q dsb) other = absurd (other q dsb refl)
    by e other = refl

-- ---- a DSB, in one history

module _ (heading : Heading) (k : Known heading) (trust : Trust) (kind : Kind) (level place : ℕ) (y : Noted) (ys : List Noted)
    (q : ℕ) (dsb : Barrier) (is_dsb : y.event ≡ Dsb q dsb) where
  held_then : 0 < heading.pes → held heading trust kind level place (y ∷ ys)
      ≡ kept heading trust (emptied heading trust kind level place (y ∷ ys)) place (λ w. y ∷ w.since) (last_valid kind level place ys)
  held_then pes = k.held_step trust kind level place y ys pes
      ∙ ap (λ (f : Event). held_after heading trust kind level place f y ys) is_dsb

  last_then : (w : ValidWrite) → last_valid kind level place ys ≡ Some w
      → last_valid kind level place (y ∷ ys) ≡ Some (record { value = w.value; since = y ∷ w.since })
  last_then w is = ap (λ (f : Event). last_valid_after kind level place f y (last_valid kind level place ys)) is_dsb
      ∙ ap (λ (o : Option ValidWrite). later y o) is

  still_emptied : emptied heading trust kind level place ys ≡ true → emptied heading trust kind level place (y ∷ ys) ≡ true
  still_emptied gone = (k.held trust).emptied_stays kind level place y ys
      (λ p v is. let apart : Dsb q dsb ≡ Write p place v = sym is_dsb ∙ is in cc)
      (λ p is. let apart : Dsb q dsb ≡ Init p (page_of place) = sym is_dsb ∙ is in cc) gone

  -- a place that held something comes to be emptied where it is empty and above
  now_empty : (value : ℕ) → held heading trust kind level place ys ≡ Some value
      → emptied heading trust kind level place (y ∷ ys) ≡ true → EmptyAbove heading trust kind level place (y ∷ ys)
  now_empty value holds gone =
      elim ((k.held trust).emptied_step kind level place y ys gone) [
        | inl before ↦ absurd (true≢false (sym before ∙ ((k.held trust).sound kind level place ys value holds).unemptied))
        | inr now ↦ now.3
      ]

  now_emptied : empties_tables heading.version ≡ true → EmptyAbove heading trust kind level place (y ∷ ys)
      → emptied heading trust kind level place (y ∷ ys) ≡ true
  now_emptied late empty =
      (k.held trust).emptied_complete kind level place (y ∷ ys) (record {
        version = late;
        q = q;
        dsb = dsb;
        newer = [];
        barrier = y;
        older = ys;
        split = refl;
        is_barrier = is_dsb;
        empty = empty;
        last = λ r v m after before s. absurd (nothing m after before s);
        no_init = λ r m after before s. absurd (nothing m after before s);
      })
    where
      nothing : (m : Noted) (after before : List Noted) → [] ≡ after ++ m ∷ before → ⊥
      nothing m [] before s = cc
      nothing m (z ∷ after) before s = cc

-- ---- a DSB, in two histories

-- What is empty and above in one history is so in another, where the last valid value is the same, the place is above at
-- the same PEs, and the places below hold the same.
empty_alike : (heading : Heading) (k : Known heading) (one other : Trust) (kind : Kind) (level place : ℕ) (z z' : List Noted)
    (u u' : ValidWrite) → last_valid kind level place z ≡ Some u → last_valid kind level place z' ≡ Some u' → u.value ≡ u'.value
    → ((p : ℕ) → p < heading.pes → above heading one place p u.since ≡ above heading other place p u'.since)
    → ((next : ℕ) → next_of kind level u.value ≡ Some next → (below : ℕ) → page_of below ≡ next
    → held heading one kind (suc level) below z ≡ held heading other kind (suc level) below z')
    → EmptyAbove heading one kind level place z → EmptyAbove heading other kind level place z'
empty_alike heading k one other kind level place z z' u u' last last' same aboves belows empty =
    let both : Some empty.w ≡ Some u = sym empty.is_last ∙ last in
    let is : empty.w ≡ u = cc in
    let table : next_of kind level u.value ≡ Some empty.next
    = ap (λ (v : ValidWrite). next_of kind level v.value) (sym is) ∙ empty.table in
    record {
      w = u';
      is_last = last';
      next = empty.next;
      table = ap (next_of kind level) (sym same) ∙ table;
      above = λ p below. (k.cleansed other).sound place p (map topped u'.since) (sym (aboves p below)
          ∙ (k.cleansed one).complete place p (map topped u.since)
          (subst (λ (v : ValidWrite). IsAbove heading one place p v.since) is (empty.above p below)));
      holds_none = λ below under. sym (belows empty.next table below under) ∙ empty.holds_none below under;
    }

module _ (heading : Heading) (k : Known heading) (one other : Trust) (h h' : List Event) (pes : 0 < heading.pes)
    (a : Alike heading one other h h') where
  abbrev marks : List Noted
  marks = noted heading one h

  abbrev marks' : List Noted
  marks' = noted heading other h'

  module _ (e : Event) (t : TakesAlike heading one other h h' e) where
    abbrev x : Noted
    x = note heading one marks e

    abbrev x' : Noted
    x' = note heading other marks' e

    -- ---- a DSB

    module _ (q : ℕ) (dsb : Barrier) (is_dsb : e ≡ Dsb q dsb) where
      -- the places of the node's page, where none above is swept
      module _ (n : Node) (place : ℕ) (there : Contains (tree heading one marks) n) (free : Unswept heading one h e n)
          (inside : page_of place ≡ n.page) where
        -- what the places below hold after it, where the place holds a table
        abbrev Below_alike : Type 0
        Below_alike = (w : ValidWrite) → last_valid n.kind n.level place marks ≡ Some w
            → cleansed_everywhere heading one place (x ∷ w.since) ≡ false → held_at heading one marks n place ≡ Some w.value
            → (next : ℕ) → next_of n.kind n.level w.value ≡ Some next → (below : ℕ) → page_of below ≡ next
            → held heading one n.kind (suc n.level) below (x ∷ marks) ≡ held heading other n.kind (suc n.level) below (x' ∷ marks')

        module _ (children : Below_alike) (value : ℕ) (w w' : ValidWrite) (holds : held_at heading one marks n place ≡ Some value)
            (last : last_valid n.kind n.level place marks ≡ Some w) (last' : last_valid n.kind n.level place marks' ≡ Some w')
            (same : w.value ≡ value) (same' : w'.value ≡ value) where
          cleansed_same : cleansed_everywhere heading one place (x ∷ w.since) ≡ cleansed_everywhere heading other place (x' ∷ w'.since)
          cleansed_same =
              every_same heading.pes (λ p. cleansed heading one place p (x ∷ w.since))
              (λ p. cleansed heading other place p (x' ∷ w'.since))
              (λ p below. t.cleanses n place p w w' there free inside (ap is_some holds) last last' below)

          -- the last valid write after the DSB
          abbrev now : ValidWrite
          now = record { value = w.value; since = x ∷ w.since }

          abbrev now' : ValidWrite
          now' = record { value = w'.value; since = x' ∷ w'.since }

          above_same : empties_tables heading.version ≡ true → (p : ℕ) → p < heading.pes
              → above heading one place p (x ∷ w.since) ≡ above heading other place p (x' ∷ w'.since)
          above_same late p below = t.tops late n place p w w' there free inside (ap is_some holds) last last' below

          module _ (kept_on : cleansed_everywhere heading one place (x ∷ w.since) ≡ false) where
            below_same : (next : ℕ) → next_of n.kind n.level w.value ≡ Some next → (below : ℕ) → page_of below ≡ next
                → held heading one n.kind (suc n.level) below (x ∷ marks) ≡ held heading other n.kind (suc n.level) below (x' ∷ marks')
            below_same = children w last kept_on (holds ∙ ap Some (sym same))

            to_other : emptied heading one n.kind n.level place (x ∷ marks) ≡ true → emptied heading other n.kind n.level place (x' ∷ marks') ≡ true
            to_other gone =
                let late : empties_tables heading.version ≡ true = ((k.held one).emptied_sound n.kind n.level place (x ∷ marks) gone).version in
                now_emptied heading k other n.kind n.level place x' marks' q dsb is_dsb late
                (empty_alike heading k one other n.kind n.level place (x ∷ marks) (x' ∷ marks') now now'
                (last_then heading k one n.kind n.level place x marks q dsb is_dsb w last)
                (last_then heading k other n.kind n.level place x' marks' q dsb is_dsb w' last') (same ∙ sym same')
                (above_same late) below_same (now_empty heading k one n.kind n.level place x marks q dsb is_dsb value holds gone))

            to_one : emptied heading other n.kind n.level place (x' ∷ marks') ≡ true → emptied heading one n.kind n.level place (x ∷ marks) ≡ true
            to_one gone =
                let late : empties_tables heading.version ≡ true = ((k.held other).emptied_sound n.kind n.level place (x' ∷ marks') gone).version in
                now_emptied heading k one n.kind n.level place x marks q dsb is_dsb late
                (empty_alike heading k other one n.kind n.level place (x' ∷ marks') (x ∷ marks) now' now
                (last_then heading k other n.kind n.level place x' marks' q dsb is_dsb w' last')
                (last_then heading k one n.kind n.level place x marks q dsb is_dsb w last) (same' ∙ sym same)
                (λ p below. sym (above_same late p below))
                (λ next table below under. sym (below_same next (ap (next_of n.kind n.level) (same ∙ sym same') ∙ table) below under))
                (now_empty heading k other n.kind n.level place x' marks' q dsb is_dsb value (sym (a.held n place there inside) ∙ holds) gone))

          some_alike : kept heading one (emptied heading one n.kind n.level place (x ∷ marks)) place (λ v. x ∷ v.since) (Some w)
              ≡ kept heading other (emptied heading other n.kind n.level place (x' ∷ marks')) place (λ v. x' ∷ v.since) (Some w')
          some_alike = by (cleansed_everywhere heading one place (x ∷ w.since)) refl
            where
              by : (c : Bool) → cleansed_everywhere heading one place (x ∷ w.since) ≡ c
                  → cond (emptied heading one n.kind n.level place (x ∷ marks) || cleansed_everywhere heading one place (x ∷ w.since)) None (Some w.value)
                  ≡ cond (emptied heading other n.kind n.level place (x' ∷ marks') || cleansed_everywhere heading other place (x' ∷ w'.since)) None (Some w'.value)
              by true c =
                  ap (λ (b : Bool). cond b None (Some w.value)) (or_right (emptied heading one n.kind n.level place (x ∷ marks)) _ c)
                  ∙ sym (ap (λ (b : Bool). cond b None (Some w'.value))
                  (or_right (emptied heading other n.kind n.level place (x' ∷ marks')) _ (sym cleansed_same ∙ c)))
              by false c =
                  ap (λ (b : Bool). cond (emptied heading one n.kind n.level place (x ∷ marks) || b) None (Some w.value)) c
                  ∙ (ap (λ (b : Bool). cond (b || false) None (Some w.value))
                  (same_truth (emptied heading one n.kind n.level place (x ∷ marks)) (emptied heading other n.kind n.level place (x' ∷ marks'))
                  (to_other c) (to_one c))
                  ∙ (ap (λ (v : ℕ). cond (emptied heading other n.kind n.level place (x' ∷ marks') || false) None (Some v)) (same ∙ sym same')
                  ∙ sym (ap (λ (b : Bool). cond (emptied heading other n.kind n.level place (x' ∷ marks') || b) None (Some w'.value)) (sym cleansed_same ∙ c))))

        with_below : Below_alike → held_at heading one (x ∷ marks) n place ≡ held_at heading other (x' ∷ marks') n place
        with_below children =
            held_then heading k one n.kind n.level place x marks q dsb is_dsb pes
            ∙ (by (held_at heading one marks n place) refl ∙ sym (held_then heading k other n.kind n.level place x' marks' q dsb is_dsb pes))
          where
            by : (o : Option ℕ) → held_at heading one marks n place ≡ o
                → kept heading one (emptied heading one n.kind n.level place (x ∷ marks)) place (λ w. x ∷ w.since) (last_valid n.kind n.level place marks)
                ≡ kept heading other (emptied heading other n.kind n.level place (x' ∷ marks')) place (λ w. x' ∷ w.since) (last_valid n.kind n.level place marks')
            by None none =
                none_stays heading k one place x (emptied heading one n.kind n.level place marks)
                (emptied heading one n.kind n.level place (x ∷ marks)) (still_emptied heading k one n.kind n.level place x marks q dsb is_dsb) (last_valid n.kind n.level place marks) none
                ∙ sym (none_stays heading k other place x' (emptied heading other n.kind n.level place marks')
                (emptied heading other n.kind n.level place (x' ∷ marks')) (still_emptied heading k other n.kind n.level place x' marks' q dsb is_dsb) (last_valid n.kind n.level place marks')
                (sym (a.held n place there inside) ∙ none))
            by (Some value) holds =
                let u = last_of heading one (emptied heading one n.kind n.level place marks) place value (last_valid n.kind n.level place marks) holds in
                let u' = last_of heading other (emptied heading other n.kind n.level place marks') place value (last_valid n.kind n.level place marks')
                (sym (a.held n place there inside) ∙ holds) in
                ap (λ (o : Option ValidWrite). kept heading one (emptied heading one n.kind n.level place (x ∷ marks)) place (λ w. x ∷ w.since) o) u.1
                ∙ (some_alike children value u.0 u'.0 holds u.1 u'.1 u.2 u'.2
                ∙ sym (ap (λ (o : Option ValidWrite). kept heading other (emptied heading other n.kind n.level place (x' ∷ marks')) place (λ w. x' ∷ w.since) o) u'.1))

      -- the page below isn't swept where the place isn't cleansed
      unswept_below : (n : Node) (place next : ℕ) (w : ValidWrite) → Unswept heading one h e n
          → last_valid n.kind n.level place marks ≡ Some w → cleansed_everywhere heading one place (x ∷ w.since) ≡ false
          → Unswept heading one h e (node_below n place next)
      unswept_below n place next w free last kept_on up i v is =
          elim (contains_cases n.above (record { place = place; level = n.level }) up i) [
            | inl here ↦
                let at : last_valid n.kind n.level place marks ≡ Some v
                = subst (λ (y : Above). last_valid n.kind y.level y.place marks ≡ Some v) (sym here) is in
                let both : Some w ≡ Some v = sym last ∙ at in
                let one_write : w ≡ v = cc in
                subst (λ (y : Above). cleansed_everywhere heading one y.place (x ∷ v.since) ≡ false) here
                (subst (λ (y : ValidWrite). cleansed_everywhere heading one place (x ∷ y.since) ≡ false) one_write kept_on)
            | inr above ↦ free up above v is
          ]

      -- deepest level first
      same_after : (depth : ℕ) (n : Node) (place : ℕ) → 3 ≤ depth + n.level → Contains (tree heading one marks) n
          → Unswept heading one h e n → page_of place ≡ n.page
          → held_at heading one (x ∷ marks) n place ≡ held_at heading other (x' ∷ marks') n place
      same_after zero n place deep there free inside =
          with_below n place there free inside (λ w last kept_on holds next table below under.
          let up : n.level < 3 = table_level n.kind n.level w.value next table in absurd (omega (arith, up, deep)))
      same_after (suc depth) n place deep there free inside =
          with_below n place there free inside (λ w last kept_on holds next table below under.
          same_after depth (node_below n place next) below (omega (arith, deep))
          ((k.tree one).below marks n place w.value next there inside holds table)
          (unswept_below n place next w free last kept_on) under)

      -- a node that is still in a tree isn't swept
      unswept : keeps heading one (e ∷ h) ≡ true → (n : Node) → Contains (tree heading one (noted heading one (e ∷ h))) n
          → Unswept heading one h e n
      unswept unbroken n stays up i w last =
          let kept_on : keeps heading one (Dsb q dsb ∷ h) ≡ true = subst (λ (f : Event). keeps heading one (f ∷ h) ≡ true) is_dsb unbroken in
          let still : InTreeAfterDsb heading one marks (Dsb q dsb) n
          = ((k.tree_step one).dsb h q dsb kept_on n).0
          (subst (λ (f : Event). Contains (tree heading one (noted heading one (f ∷ h))) n) is_dsb stays) in
          let some : is_some (held heading one n.kind up.level up.place (x ∷ marks)) ≡ true
          = subst (λ (f : Event). is_some (held heading one n.kind up.level up.place (note heading one marks f ∷ marks)) ≡ true) (sym is_dsb) (still.1 up i) in
          by (cleansed_everywhere heading one up.place (x ∷ w.since)) refl
          (sym (ap is_some (k.held_step one n.kind up.level up.place x marks pes
          ∙ (ap (λ (f : Event). held_after heading one n.kind up.level up.place f x marks) is_dsb
          ∙ ap (λ (o : Option ValidWrite). kept heading one (emptied heading one n.kind up.level up.place (x ∷ marks)) up.place (λ v. x ∷ v.since) o) last)))
          ∙ some)
        where
          by : (c : Bool) → cleansed_everywhere heading one up.place (x ∷ w.since) ≡ c
              → is_some (cond (emptied heading one n.kind up.level up.place (x ∷ marks) || cleansed_everywhere heading one up.place (x ∷ w.since)) None (Some w.value)) ≡ true
              → c ≡ false
          by false is some = refl
          by true is some = absurd (true≢false (sym some ∙ ap (λ (b : Bool). is_some (cond b None (Some w.value)))
              (or_right (emptied heading one n.kind up.level up.place (x ∷ marks)) _ is)))

    -- ---- any event

    module _ (unbroken : keeps heading one (e ∷ h) ≡ true) (n : Node) (place : ℕ)
        (there : Contains (tree heading one marks) n) (stays : Contains (tree heading one (noted heading one (e ∷ h))) n)
        (inside : page_of place ≡ n.page) where
      held_now : held_at heading one marks n place ≡ held_at heading other marks' n place
      held_now = a.held n place there inside

      pub held_old : held_at heading one (x ∷ marks) n place ≡ held_at heading other (x' ∷ marks') n place
      held_old = by e refl
        where
          stepped : (f : Event) → e ≡ f
              → held_after heading one n.kind n.level place f x marks ≡ held_after heading other n.kind n.level place f x' marks'
              → held_at heading one (x ∷ marks) n place ≡ held_at heading other (x' ∷ marks') n place
          stepped f is same =
              k.held_step one n.kind n.level place x marks pes
              ∙ (ap (λ (g : Event). held_after heading one n.kind n.level place g x marks) is
              ∙ (same ∙ (sym (ap (λ (g : Event). held_after heading other n.kind n.level place g x' marks') is)
              ∙ sym (k.held_step other n.kind n.level place x' marks' pes))))

          by : (f : Event) → e ≡ f → held_at heading one (x ∷ marks) n place ≡ held_at heading other (x' ∷ marks') n place
          by (Write pe at value) is = stepped (Write pe at value) is
              (ap (λ (o : Option ℕ). cond (at == place && is_valid n.kind n.level value) (Some value) o) held_now)
          by (Init pe page) is = stepped (Init pe page) is (ap (λ (o : Option ℕ). cond (page == page_of place) None o) held_now)
          by (Dsb pe dsb) is = same_after pe dsb is 3 n place (omega arith) there (unswept pe dsb is unbroken n stays) inside
          by f is = stepped f is held_now

      -- ---- patterns

      abbrev Patterns_at : ValidWrite → ValidWrite → Type 0
      Patterns_at w w' = SamePatterns heading place one other w.since w'.since
          × (empties_tables heading.version ≡ true → SamePatterns heading place one other (map topped w.since) (map topped w'.since))

      -- the last valid write is the one before, and something was held before
      on : (w w' : ValidWrite) → is_some (held_at heading one marks n place) ≡ true
          → later x (last_valid n.kind n.level place marks) ≡ Some w
          → later x' (last_valid n.kind n.level place marks') ≡ Some w' → Patterns_at w w'
      on w w' some last last' =
          let u = from_later x (last_valid n.kind n.level place marks) w last in
          let u' = from_later x' (last_valid n.kind n.level place marks') w' last' in
          subst (λ (s : List Noted). SamePatterns heading place one other s w'.since
          × (empties_tables heading.version ≡ true → SamePatterns heading place one other (map topped s) (map topped w'.since))) (sym u.2)
          (subst (λ (s : List Noted). SamePatterns heading place one other (x ∷ u.0.since) s
          × (empties_tables heading.version ≡ true → SamePatterns heading place one other (map topped (x ∷ u.0.since)) (map topped s))) (sym u'.2) (
            patterns_step heading k one other place u.0.since u'.0.since
                (a.patterns n place u.0 u'.0 there inside some u.1 u'.1) e (cover_at heading one marks e)
                (cover_at heading other marks' e) (top_at heading one marks e) (top_at heading other marks' e) x.position x'.position
                (cover_alike heading k one other h h' a e place)
                (λ p below. cleanses u.0 u'.0 u.1 u'.1 p below e refl),
            λ late. patterns_step heading k one other place (map topped u.0.since) (map topped u'.0.since)
                (a.tops late n place u.0 u'.0 there inside some u.1 u'.1) e (top_at heading one marks e)
                (top_at heading other marks' e) (top_at heading one marks e) (top_at heading other marks' e) x.position x'.position
                (top_alike heading k one other h h' a e place)
                (λ p below. tops late u.0 u'.0 u.1 u'.1 p below e refl),
          ))
        where
          cleanses : (u u' : ValidWrite) → last_valid n.kind n.level place marks ≡ Some u → last_valid n.kind n.level place marks' ≡ Some u'
              → (p : ℕ) → p < heading.pes → (f : Event) → e ≡ f
              → cleansed heading one place p (x ∷ u.since) ≡ cleansed heading other place p (x' ∷ u'.since)
          cleanses u u' l l' p below (Dsb q dsb) is =
              t.cleanses n place p u u' there (unswept q dsb is unbroken n stays) inside some l l' below
          cleanses u u' l l' p below f is =
              still_cleansed heading k one place p x u.since (λ q dsb d. let apart : f ≡ Dsb q dsb = sym is ∙ d in cc)
              ∙ ((a.patterns n place u u' there inside some l l').cleansed_alike p below
              ∙ sym (still_cleansed heading k other place p x' u'.since (λ q dsb d. let apart : f ≡ Dsb q dsb = sym is ∙ d in cc)))

          tops : empties_tables heading.version ≡ true → (u u' : ValidWrite) → last_valid n.kind n.level place marks ≡ Some u
              → last_valid n.kind n.level place marks' ≡ Some u' → (p : ℕ) → p < heading.pes → (f : Event) → e ≡ f
              → above heading one place p (x ∷ u.since) ≡ above heading other place p (x' ∷ u'.since)
          tops late u u' l l' p below (Dsb q dsb) is =
              t.tops late n place p u u' there (unswept q dsb is unbroken n stays) inside some l l' below
          tops late u u' l l' p below f is =
              still_cleansed heading k one place p (topped x) (map topped u.since) (λ q dsb d. let apart : f ≡ Dsb q dsb = sym is ∙ d in cc)
              ∙ ((a.tops late n place u u' there inside some l l').cleansed_alike p below
              ∙ sym (still_cleansed heading k other place p (topped x') (map topped u'.since) (λ q dsb d. let apart : f ≡ Dsb q dsb = sym is ∙ d in cc)))

      at_write : (value : ℕ) (w w' : ValidWrite) → Some (record { value = value; since = [] }) ≡ Some w
          → Some (record { value = value; since = [] }) ≡ Some w' → Patterns_at w w'
      at_write value w w' last last' =
          let both : record { value = value; since = [] } ≡ w = cc in
          let both' : record { value = value; since = [] } ≡ w' = cc in
          subst (λ (v : ValidWrite). Patterns_at v w') both
          (subst (λ (v : ValidWrite). Patterns_at (record { value = value; since = [] }) v) both' (nothing, λ late. nothing))
        where
          nothing : SamePatterns heading place one other [] []
          nothing = record {
            writers = λ p q. refl;
            seen_alike = λ p below. refl;
            half_alike = λ p below. refl;
            cleansed_alike = λ p below. refl;
            full_wait = λ p q b below none. refl;
            half_wait = λ p q b below none. refl;
            second_wait = λ p q b below none. refl;
          }

      some_before : (q : ℕ) (dsb : Barrier) → e ≡ Dsb q dsb
          → is_some (kept heading one (emptied heading one n.kind n.level place (x ∷ marks)) place (λ w. x ∷ w.since) (last_valid n.kind n.level place marks)) ≡ true
          → is_some (held_at heading one marks n place) ≡ true
      some_before q dsb is_dsb some = by (held_at heading one marks n place) refl
        where
          by : (o : Option ℕ) → held_at heading one marks n place ≡ o → is_some o ≡ true
          by (Some value) is = refl
          by None is =
              absurd (true≢false (sym some
              ∙ ap is_some (none_stays heading k one place x (emptied heading one n.kind n.level place marks)
              (emptied heading one n.kind n.level place (x ∷ marks)) (still_emptied heading k one n.kind n.level place x marks q dsb is_dsb) (last_valid n.kind n.level place marks) is)))

      patterns_by : (f : Event) → e ≡ f → (w w' : ValidWrite) → is_some (held_after heading one n.kind n.level place f x marks) ≡ true
          → last_valid_after n.kind n.level place f x (last_valid n.kind n.level place marks) ≡ Some w
          → last_valid_after n.kind n.level place f x' (last_valid n.kind n.level place marks') ≡ Some w' → Patterns_at w w'
      patterns_by (Write pe at value) ef w w' some last last' = by (at == place && is_valid n.kind n.level value) some last last'
        where
          by : (c : Bool) → is_some (cond c (Some value) (held_at heading one marks n place)) ≡ true
              → cond c (Some (record { value = value; since = [] })) (later x (last_valid n.kind n.level place marks)) ≡ Some w
              → cond c (Some (record { value = value; since = [] })) (later x' (last_valid n.kind n.level place marks')) ≡ Some w'
              → Patterns_at w w'
          by true s l l' = at_write value w w' l l'
          by false s l l' = on w w' s l l'
      patterns_by (Init pe page) ef w w' some last last' = by (page == page_of place) some last last'
        where
          by : (c : Bool) → is_some (cond c None (held_at heading one marks n place)) ≡ true
              → cond c None (later x (last_valid n.kind n.level place marks)) ≡ Some w
              → cond c None (later x' (last_valid n.kind n.level place marks')) ≡ Some w' → Patterns_at w w'
          by true s l l' = absurd (true≢false (sym s))
          by false s l l' = on w w' s l l'
      patterns_by (Dsb pe dsb) ef w w' some last last' = on w w' (some_before pe dsb ef some) last last'
      patterns_by f ef w w' some last last' = on w w' some last last'

      pub patterns_old : (w w' : ValidWrite) → is_some (held_at heading one (x ∷ marks) n place) ≡ true
          → last_valid n.kind n.level place (x ∷ marks) ≡ Some w → last_valid n.kind n.level place (x' ∷ marks') ≡ Some w'
          → Patterns_at w w'
      patterns_old w w' some last last' =
          patterns_by e refl w w' (ap is_some (sym (k.held_step one n.kind n.level place x marks pes)) ∙ some) last last'
