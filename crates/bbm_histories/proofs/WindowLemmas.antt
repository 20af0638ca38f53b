-- What a PE can still read at a place of a tree has the core of what the place holds.
use Rattle.bbm_histories.proofs.Common.{append_assoc, Heading, Event, Init, Write, Readable, Below, Quiet, Attaches}
use Rattle.bbm_histories.proofs.Common.{InTree, MakesReadable, NoInit, OddStays}
use Rattle.bbm_rules.proofs.Common.{◌≡◌, ℕ, ◌<◌, ◌%◌, ◌⊎◌, Bool, true, false, cond, ◌==◌, List, [], ◌∷◌, ◌++◌, Some}
use Rattle.bbm_rules.proofs.Common.{refl, sym, ◌∙◌, ap, subst, inl, inr, true≢false, eq-eqb, eqb-true, Kind, core_of}
use Rattle.bbm_rules.proofs.Common.{is_valid, keeps, Trust, seen, note, noted, ValidWrite, held, last_valid, Noted}
use Rattle.bbm_rules.proofs.Common.{events_of, is_fresh, IsLastValid, Publication, page_of, Node, held_at, is_readable}
use Rattle.bbm_rules.proofs.Common.{false_from_ne_true, published, value_of}
use Rattle.bbm_rules.specs.Held.{emptied}
use Rattle.bbm_histories.specs.ValueChanges.{Window}
use Rattle.bbm_histories.proofs.CoreLemmas.{core_same}
use Rattle.bbm_histories.proofs.HeldSteps.{init_outside, same_core}
use Rattle.bbm_histories.proofs.Induction.{NotesSplit, Unbroken, events_append, none_split, notes_split, throughout}
use Rattle.bbm_histories.proofs.Invariants.{Invariants, invariants, none_at_start}
use Rattle.bbm_histories.proofs.PatternLemmas.{cleansed_is_seen, last_before, last_on, split_cases, write_in}
use Rattle.bbm_histories.proofs.TreeSteps.{added, attached_fresh, is_tracked, node_is, not_fresh_there}
use Rattle.bbm_histories.proofs.ValueLemmas.{readable_back}

-- a value other than 0 was written since the last init
record Given (h : List Event) (place value : ℕ) : Type 0 where
  q : ℕ
  newer : List Event
  older : List Event
  split : h ≡ newer ++ Write q place value ∷ older
  no_init : NoInit (page_of place) newer

given_later : (e : Event) (h : List Event) (place value : ℕ) → ((q : ℕ) → e ≡ Init q (page_of place) → ⊥)
    → Given h place value → Given (e ∷ h) place value
given_later e h place value other g = record {
  q = g.q;
  newer = e ∷ g.newer;
  older = g.older;
  split = ap (λ (xs : List Event). e ∷ xs) g.split;
  no_init = none;
}
  where
    none : NoInit (page_of place) (e ∷ g.newer)
    none q [] before s = let first : e ≡ Init q (page_of place) = cc in other q first
    none q (x ∷ after) before s = let rest : g.newer ≡ after ++ Init q (page_of place) ∷ before = cc in g.no_init q after before rest

given : (h : List Event) (place value : ℕ) → value_of h place ≡ value → (value ≡ 0 → ⊥) → Given h place value
given [] place value e some = absurd (some (sym e))
given (Write q at v ∷ h) place value e some = by (at == place) refl e (λ k. given h place value k some)
  where
    by : (c : Bool) → (at == place) ≡ c → cond c v (value_of h place) ≡ value → (value_of h place ≡ value → Given h place value)
        → Given (Write q at v ∷ h) place value
    by true c k before = record {
      q = q;
      newer = [];
      older = h;
      split = ap (λ (x : Event). x ∷ h) (ap (λ (x : ℕ). Write q x v) (eqb-true at place c) ∙ ap (Write q place) k);
      no_init = none;
    }
      where
        none : NoInit (page_of place) []
        none p [] before s = cc
        none p (x ∷ after) before s = cc
    by false c k before = given_later (Write q at v) h place value (λ p is. cc) (before k)
given (Init q page ∷ h) place value e some = by (page == page_of place) refl e (λ k. given h place value k some)
  where
    by : (c : Bool) → (page == page_of place) ≡ c → cond c 0 (value_of h place) ≡ value → (value_of h place ≡ value → Given h place value)
        → Given (Init q page ∷ h) place value
    by true c k before = absurd (some (sym k))
    by false c k before = given_later (Init q page) h place value
        (λ p is. let same : page ≡ page_of place = cc in true≢false (sym (eq-eqb page (page_of place) same) ∙ c)) (before k)
given (e ∷ h) place value k some =
    given_later e h place value (λ p is. let apart : e ≡ Init p (page_of place) = is in cc) (given h place value k some)

-- one event that doesn't end the last valid write
quiet_one : (kind : Kind) (level place : ℕ) (x : Noted) → ((q v : ℕ) → x.event ≡ Write q place v → is_valid kind level v ≡ false)
    → ((q : ℕ) → x.event ≡ Init q (page_of place) → ⊥) → Quiet kind level place (x ∷ [])
quiet_one kind level place x no_write no_init = record {
  no_write = λ q v n after before s is. write q v n after before s is;
  no_init = λ q n after before s is. init q n after before s is;
}
  where
    write : (q v : ℕ) (n : Noted) (after before : List Noted) → x ∷ [] ≡ after ++ n ∷ before → n.event ≡ Write q place v
        → is_valid kind level v ≡ false
    write q v n [] before s is = let first : x ≡ n = cc in no_write q v (ap (λ (y : Noted). y.event) first ∙ is)
    write q v n (y ∷ after) before s is = let rest : [] ≡ after ++ n ∷ before = cc in absurd (none_split after before n rest)

    init : (q : ℕ) (n : Noted) (after before : List Noted) → x ∷ [] ≡ after ++ n ∷ before → n.event ≡ Init q (page_of place) → ⊥
    init q n [] before s is = let first : x ≡ n = cc in no_init q (ap (λ (y : Noted). y.event) first ∙ is)
    init q n (y ∷ after) before s is = let rest : [] ≡ after ++ n ∷ before = cc in none_split after before n rest

module _ (heading : Heading) (trust : Trust) (b : Below heading trust) where
  -- a publication after the last valid write against a later moment at which the place had a valid value
  module _ (kind : Kind) (level place p value : ℕ) (h : List Noted) (w : ValidWrite) (valid : is_valid kind level value ≡ true)
      (r : Readable heading (events_of h) place p value) (n : NotesSplit h r.newer r.older) (l : IsLastValid kind level place h w)
      (d : Noted) (k : Publication heading place p w.since d) where
    -- the barrier is among the events after the write
    is_published : published heading k.q p (events_of (k.newer ++ d ∷ k.between)) ≡ true
    is_published =
        b.published.complete k.q p (events_of (k.newer ++ d ∷ k.between)) (record {
          dsb = k.dsb;
          after = events_of k.newer;
          before = events_of k.between;
          split = events_append k.newer (d ∷ k.between)
              ∙ ap (λ (x : Event). events_of k.newer ++ x ∷ events_of k.between) k.barrier;
          publishes = k.publishes;
        })

    clash : ((rest : List Noted) × (n.new ≡ (k.newer ++ d ∷ k.between) ++ k.write ∷ rest))
        ⊎ ((start : List Noted) × (n.old ≡ start ++ k.write ∷ (k.older ++ l.write ∷ l.older))
        × (k.newer ++ d ∷ k.between ≡ n.new ++ start)) → ⊥
    clash (inl newer) =
        true≢false (sym is_published ∙ r.unreplaced k.q k.value (events_of (k.newer ++ d ∷ k.between)) (events_of newer.0)
        (sym n.new_events ∙ (ap events_of newer.1 ∙ (events_append (k.newer ++ d ∷ k.between) (k.write ∷ newer.0)
        ∙ ap (λ (x : Event). events_of (k.newer ++ d ∷ k.between) ++ x ∷ events_of newer.0) k.wrote))))
    clash (inr older) =
        let live = b.last_valid.live kind level place n.old
        (subst (λ (x : ℕ). is_valid kind level x ≡ true)
        (sym (ap (λ (es : List Event). value_of es place) n.old_events ∙ r.had)) valid) in
        let longer : w.since ≡ n.new ++ (older.0 ++ k.write ∷ k.older)
        = write_in heading place p w.since d k
        ∙ (ap (λ (xs : List Noted). xs ++ k.write ∷ k.older) older.2 ∙ append_assoc n.new older.0 (k.write ∷ k.older)) in
        let was : last_valid kind level place n.old ≡ Some (record { value = w.value; since = older.0 ++ k.write ∷ k.older })
        = b.last_valid.complete kind level place n.old
        (record { value = w.value; since = older.0 ++ k.write ∷ k.older })
        (last_before heading trust b kind level place n.new n.old w.value (older.0 ++ k.write ∷ k.older) w refl longer
        (subst (λ (xs : List Noted). IsLastValid kind level place xs w) n.split l)) in
        let both : Some live.0 ≡ Some (record { value = w.value; since = older.0 ++ k.write ∷ k.older }) = sym live.1 ∙ was in
        let same : live.0 ≡ record { value = w.value; since = older.0 ++ k.write ∷ k.older } = cc in
        live.3 k.q k.value k.write older.0 k.older (ap (λ (x : ValidWrite). x.since) same) k.wrote

    whole : n.new ++ n.old ≡ (k.newer ++ d ∷ k.between) ++ k.write ∷ (k.older ++ l.write ∷ l.older)
    whole = sym n.split ∙ (l.split ∙ (ap (λ (xs : List Noted). xs ++ l.write ∷ l.older) (write_in heading place p w.since d k)
        ∙ append_assoc (k.newer ++ d ∷ k.between) (k.write ∷ k.older) (l.write ∷ l.older)))

    never : ⊥
    never = clash (split_cases n.new n.old (k.newer ++ d ∷ k.between) (k.older ++ l.write ∷ l.older) k.write whole)

  -- where a valid value is readable, the place isn't seen
  pub unseen_if_readable : (kind : Kind) (level place p value : ℕ) (h : List Noted) (w : ValidWrite)
      → is_readable heading (events_of h) place p value ≡ true → is_valid kind level value ≡ true
      → last_valid kind level place h ≡ Some w → seen heading place p w.since ≡ false
  unseen_if_readable kind level place p value h w readable valid last = by (seen heading place p w.since) refl
    where
      r : Readable heading (events_of h) place p value
      r = b.readable_value.sound (events_of h) place p value readable

      by : (c : Bool) → seen heading place p w.since ≡ c → c ≡ false
      by false s = refl
      by true s =
          let k = b.seen.sound place p w.since s in
          absurd (never kind level place p value h w valid r (notes_split h r.newer r.older r.split)
          (b.last_valid.sound kind level place h w last) k.0 k.1)

  -- where the place isn't seen at some PE, it holds the last valid value
  pub held_if_unseen : (kind : Kind) (level place p : ℕ) (h : List Noted) (w : ValidWrite) → p < heading.pes
      → last_valid kind level place h ≡ Some w → seen heading place p w.since ≡ false
      → held heading trust kind level place h ≡ Some w.value
  held_if_unseen kind level place p h w is_pe last unseen =
      let l : IsLastValid kind level place h w = b.last_valid.sound kind level place h w last in
      b.held.complete kind level place h w.value (record {
        since = w.since;
        last_write = l;
        p = p;
        is_pe = is_pe;
        uncleansed = λ c. true≢false
            (sym (b.seen.complete place p w.since (cleansed_is_seen heading trust place p w.since c)) ∙ unseen);
        unemptied = false_from_ne_true (emptied heading trust kind level place h)
            (λ e. true≢false (sym (b.held.emptied_seen kind level place h w p is_pe e last) ∙ unseen));
      })

  -- a value that is readable in a fresh page, and valid, is the present one
  present_if_readable : (kind : Kind) (level place p value : ℕ) (h : List Noted) → OddStays heading trust h
      → is_fresh heading trust h (page_of place) ≡ true → is_readable heading (events_of h) place p value ≡ true
      → is_valid kind level value ≡ true → value_of (events_of h) place ≡ value
  present_if_readable kind level place p value h odd fresh readable valid =
      let is_odd : value % 2 ≡ 1 = b.last_valid.odd kind level value valid in
      let g : Given r.older place value = given r.older place value r.had (λ zero. not_zero zero is_odd) in
      odd g.q place value (r.newer ++ g.newer) g.older fresh
      (r.split ∙ (ap (λ (xs : List Event). r.newer ++ xs) g.split ∙ sym (append_assoc r.newer g.newer (Write g.q place value ∷ g.older))))
      (λ q after before s. elim (split_cases r.newer g.newer after before (Init q (page_of place)) s) [
        | inl a ↦ r.no_init q after a.0 a.1
        | inr a ↦ g.no_init q a.0 before a.1
      ]) is_odd
    where
      r : Readable heading (events_of h) place p value
      r = b.readable_value.sound (events_of h) place p value readable

      not_zero : value ≡ 0 → value % 2 ≡ 1 → ⊥
      not_zero z o = let k : 0 % 2 ≡ 1 = sym (ap (λ (x : ℕ). x % 2) z) ∙ o in cc

  -- ---- the invariant

  -- the last valid value of a place, which has the core of this one
  pub record LastLike (h : List Noted) (n : Node) (place value : ℕ) : Type 0 where
    pub w : ValidWrite
    pub is : last_valid n.kind n.level place h ≡ Some w
    pub core : core_of n.kind n.level w.value ≡ core_of n.kind n.level value

  abbrev pub SameCore : List Noted → Type 0
  SameCore h = (n : Node) (place p value : ℕ) → p < heading.pes → InTree heading trust h n → page_of place ≡ n.page
      → is_readable heading (events_of h) place p value ≡ true → is_valid n.kind n.level value ≡ true
      → LastLike h n place value

  module _ (h : List Noted) (e : Event) (kept : Unbroken heading trust h e) (i : Invariants heading trust h)
      (n : Node) (place p value : ℕ) (inside : page_of place ≡ n.page) (valid : is_valid n.kind n.level value ≡ true) where
    abbrev now : List Noted
    now = note heading trust h e ∷ h

    -- the event is the write of the value
    just_written : (q : ℕ) (v : ℕ) → e ≡ Write q place v → is_valid n.kind n.level v ≡ true
        → last_valid n.kind n.level place now ≡ Some (record { value = v; since = [] })
    just_written q v is valid_v =
        b.last_valid.complete n.kind n.level place now (record { value = v; since = [] }) (record {
          pe = q;
          write = note heading trust h e;
          older = h;
          split = refl;
          wrote = is;
          valid = valid_v;
          last = λ q u x after before s. absurd (none_split after before x s);
          no_init = λ q x after before s. absurd (none_split after before x s);
        })

    goes_on : ((q v : ℕ) → e ≡ Write q place v → is_valid n.kind n.level v ≡ false) → ((q : ℕ) → e ≡ Init q (page_of place) → ⊥)
        → LastLike h n place value → LastLike now n place value
    goes_on no_write no_init l = record {
      w = record { value = l.w.value; since = note heading trust h e ∷ l.w.since };
      is = last_on b.last_valid n.kind n.level place (note heading trust h e ∷ []) h l.w
          (quiet_one n.kind n.level place (note heading trust h e) no_write no_init) l.is;
      core = l.core;
    }

    -- the page came into the tree
    new_page : Attaches heading trust h e n → is_readable heading (e ∷ events_of h) place p value ≡ true → LastLike now n place value
    new_page a readable =
        elim (readable_back heading trust b e (events_of h) place p value readable) [
          | inl made ↦ absurd (unmade made)
          | inr old ↦
              let present : value_of (events_of h) place ≡ value
              = present_if_readable n.kind n.level place p value h i.odd fresh old valid in
              let live = b.last_valid.live n.kind n.level place h
              (subst (λ (x : ℕ). is_valid n.kind n.level x ≡ true) (sym present) valid) in
              goes_on (λ q v is. absurd (unwritten q v is)) (λ q is. no_init q is)
              (record { w = live.0; is = live.1; core = ap (core_of n.kind n.level) (live.2 ∙ present) })
        ]
      where
        fresh : is_fresh heading trust h (page_of place) ≡ true
        fresh = subst (λ (x : ℕ). is_fresh heading trust h x ≡ true) (sym inside)
            (attached_fresh heading trust b h i.odd i.one e n a)

        unwritten : (q v : ℕ) → e ≡ Write q place v → ⊥
        unwritten q v is =
            let l = subst (λ (x : Event). Attaches heading trust h x n) is a in
            let k = b.tree.taken h (page_of place) l.parent l.is_parent in
            not_fresh_there heading trust b h l.parent (page_of place) k.0 k.1 fresh

        no_init : (q : ℕ) → e ≡ Init q (page_of place) → ⊥
        no_init q is = subst (λ (x : Event). Attaches heading trust h x n) is a

        unmade : MakesReadable place value e → ⊥
        unmade (inl w) = unwritten w.0 value w.1
        unmade (inr z) = no_init z.0 z.1

    -- the page was there before
    old_page : SameCore h → p < heading.pes → InTree heading trust h n → is_readable heading (e ∷ events_of h) place p value ≡ true
        → LastLike now n place value
    old_page before is_pe t readable =
        elim (readable_back heading trust b e (events_of h) place p value readable) [
          | inl made ↦ fresh_made made
          | inr old ↦ by_event e refl old (before n place p value is_pe t inside old valid)
        ]
      where
        no_init : (q : ℕ) → e ≡ Init q (page_of place) → ⊥
        no_init q is =
            true≢false (sym (is_tracked heading trust b h n (page_of place) t (sym inside))
            ∙ (init_outside heading trust h q (page_of place) (subst (λ (x : Event). Unbroken heading trust h x) is kept)).0)

        fresh_made : MakesReadable place value e → LastLike now n place value
        fresh_made (inl w) = record {
          w = record { value = value; since = [] };
          is = just_written w.0 value w.1 valid;
          core = refl;
        }
        fresh_made (inr z) = absurd (no_init z.0 z.1)

        overwritten : (q u : ℕ) → e ≡ Write q place u → is_valid n.kind n.level u ≡ true
            → is_readable heading (events_of h) place p value ≡ true → LastLike h n place value → LastLike now n place value
        overwritten q u is valid_u old l =
            let unseen : seen heading place p l.w.since ≡ false
            = unseen_if_readable n.kind n.level place p value h l.w old valid l.is in
            let holds : held_at heading trust h n place ≡ Some l.w.value
            = held_if_unseen n.kind n.level place p h l.w is_pe l.is unseen in
            let last : IsLastValid n.kind n.level place h l.w = b.last_valid.sound n.kind n.level place h l.w l.is in
            let same : core_of n.kind n.level l.w.value ≡ core_of n.kind n.level u
            = core_same heading trust b n.kind n.level l.w.value u last.valid valid_u
            (same_core heading trust h n q place u l.w.value (subst (λ (x : Event). Unbroken heading trust h x) is kept)
            (node_is heading trust b h i.one n (page_of place) t (sym inside)) holds) in
            record { w = record { value = u; since = [] }; is = just_written q u is valid_u; core = sym same ∙ l.core }

        by_event : (x : Event) → e ≡ x → is_readable heading (events_of h) place p value ≡ true → LastLike h n place value
            → LastLike now n place value
        by_event (Write q at u) change old l = by (at == place) (is_valid n.kind n.level u) refl refl
          where
            by : (c v : Bool) → (at == place) ≡ c → is_valid n.kind n.level u ≡ v → LastLike now n place value
            by true true c v =
                overwritten q u (change ∙ ap (λ (x : ℕ). Write q x u) (eqb-true at place c)) v old l
            by true false c v = goes_on (λ q' u' is.
                let both : Write q at u ≡ Write q' place u' = sym change ∙ is in
                let same : u ≡ u' = cc in subst (λ (x : ℕ). is_valid n.kind n.level x ≡ false) same v) no_init l
            by false v c k = goes_on (λ q' u' is.
                let both : Write q at u ≡ Write q' place u' = sym change ∙ is in
                let same : at ≡ place = cc in absurd (true≢false (sym (eq-eqb at place same) ∙ c))) no_init l
        by_event x change old l =
            goes_on (λ q u is. let apart : x ≡ Write q place u = sym change ∙ is in cc) no_init l

  same_core_step : (h : List Noted) (e : Event) → Unbroken heading trust h e → Invariants heading trust h → SameCore h
      → SameCore (note heading trust h e ∷ h)
  same_core_step h e kept i before n place p value is_pe t inside readable valid =
      elim (added heading trust b h i.odd i.one e n kept t) [
        | inl old ↦ old_page h e kept i n place p value inside valid before is_pe old readable
        | inr a ↦ new_page h e kept i n place p value inside valid a readable
      ]

  same_cores : (h : List Event) → keeps heading trust h ≡ true → SameCore (noted heading trust h)
  same_cores h kept =
      throughout heading trust b SameCore (λ n place p value is_pe t. absurd (none_at_start heading trust b n t))
      (λ older e before_kept rule before.
      same_core_step (noted heading trust older) e rule (invariants heading trust b older before_kept) before) h kept

  pub window : (h : List Event) → keeps heading trust h ≡ true → (n : Node) (place p value : ℕ) → p < heading.pes
      → InTree heading trust (noted heading trust h) n → page_of place ≡ n.page → is_readable heading h place p value ≡ true
      → is_valid n.kind n.level value ≡ true → Window heading trust (noted heading trust h) n place p value
  window h kept n place p value is_pe t inside readable valid =
      let there : is_readable heading (events_of (noted heading trust h)) place p value ≡ true
      = subst (λ (es : List Event). is_readable heading es place p value ≡ true) (sym (b.notes_keep_the_events h))
      readable in
      let l : LastLike (noted heading trust h) n place value = same_cores h kept n place p value is_pe t inside there valid in
      let unseen : seen heading place p l.w.since ≡ false
      = unseen_if_readable n.kind n.level place p value (noted heading trust h) l.w there valid l.is in
      record {
        kept = l.w.value;
        holds = held_if_unseen n.kind n.level place p (noted heading trust h) l.w is_pe l.is unseen;
        same_core = b.no_need n.kind n.level l.w.value value l.core;
        last = l.w;
        is_last = l.is;
        unseen = unseen;
      }
