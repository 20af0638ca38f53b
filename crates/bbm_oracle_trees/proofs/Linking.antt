-- Which events leave the trees as they are.
use Rattle.bbm_rules.proofs.Common.{◌≡◌, ℕ, suc, Bool, true, false, not, ◌&&◌, ◌==◌, cond, List, [], ◌∷◌, ◌++◌, filter}
use Rattle.bbm_rules.proofs.Common.{filter_map, flat_map, find, Option, Some, None, is_none, is_some, true≢false, refl}
use Rattle.bbm_rules.proofs.Common.{◌||◌, inl, inr, or_cases, or_left, or_right, and_from}
use Rattle.bbm_rules.proofs.Common.{sym, ◌∙◌, ap, subst, and_parts, eq-eqb, eqb-true, not-true, or_parts}
use Rattle.bbm_rules.proofs.Common.{list_any-append, cons_option, proved, Is, every_wider, Cover, is_valid, Barrier}
use Rattle.bbm_rules.proofs.Common.{Heading, Event, Init, Null, Root, Unroot, Write, Dsb, Trust, answered_where}
use Rattle.bbm_rules.proofs.Common.{answers_one, cleansed, full_step, second_step, ValidWrite, cleansed_everywhere}
use Rattle.bbm_rules.proofs.Common.{held, last_valid, later, ◌>>=◌, among, any, Noted, events_of, is_fresh}
use Rattle.bbm_rules.proofs.Common.{may_be_fresh, page_of, Declared, roots_of, Node, child_at, children, in_tree}
use Rattle.bbm_rules.proofs.Common.{next_of, node_below, starts_at, places_in, written_places}
use Rattle.bbm_lemmas.proofs.Bools.{or_later}
use Rattle.bbm_rules.specs.Held.{emptied, emptied_in, empties_tables, held_unless, is_empty_above}
use Rattle.bbm_rules.specs.Prelude.{Kind}
use Rattle.bbm_rules.specs.Tree.{nodes_at, tree}
use Rattle.bbm_oracle_trees.specs.Links.{begins_at, is_cut, is_touched, leaves}
use Rattle.bbm_oracle_trees.proofs.Covering.{none_valid}

-- ---- trees whose pages lead where they led

-- A test of pages tells whether the newest event may change a tree.
module _ (heading : Heading) (trust : Trust) (h : List Noted) (n : Noted) (test : Node → Bool) where
  -- where neither a page nor the page below its place tells so, the place leads where it led
  abbrev Step : Type 0
  Step = (m : Node) (place : ℕ) → (page_of place == m.page) ≡ true → test m ≡ false
      → ((c : Node) → child_at heading trust h m place ≡ Some c → test c ≡ false)
      → child_at heading trust (n ∷ h) m place ≡ child_at heading trust h m place

  -- where a page doesn't tell so, no place that is written for the first time leads anywhere
  abbrev Places : Type 0
  Places = (m : Node) → test m ≡ false
      → filter_map (child_at heading trust (n ∷ h) m) (places_in (events_of (n ∷ h)) m.page)
      ≡ filter_map (child_at heading trust (n ∷ h) m) (places_in (events_of h) m.page)

  any_four : (a b c d : List Node) → any test (a ++ b ++ c ++ d) ≡ false
      → (any test a ≡ false) × (any test b ≡ false) × (any test c ≡ false) × (any test d ≡ false)
  any_four a b c d none =
      let last = or_parts (any test (a ++ b ++ c)) (any test d) (sym (list_any-append test (a ++ b ++ c) d) ∙ none) in
      let third = or_parts (any test (a ++ b)) (any test c) (sym (list_any-append test (a ++ b) c) ∙ last.0) in
      let first = or_parts (any test a) (any test b) (sym (list_any-append test a b) ∙ third.0) in
      (first.0, first.1, third.1, last.1)

  module _ (step : Step) (places : Places) where
    same_among : (m : Node) → test m ≡ false → (ps : List ℕ)
        → any test (filter_map (child_at heading trust h m) (filter (λ p. page_of p == m.page) ps)) ≡ false
        → filter_map (child_at heading trust (n ∷ h) m) (filter (λ p. page_of p == m.page) ps)
        ≡ filter_map (child_at heading trust h m) (filter (λ p. page_of p == m.page) ps)
    same_among m ok [] none = refl
    same_among m ok (p ∷ ps) none = by_page (page_of p == m.page) refl none (same_among m ok ps)
      where
        inside : List ℕ
        inside = filter (λ q. page_of q == m.page) ps

        was : List Node
        was = filter_map (child_at heading trust h m) inside

        now : List Node
        now = filter_map (child_at heading trust (n ∷ h) m) inside

        both : child_at heading trust (n ∷ h) m p ≡ child_at heading trust h m p → now ≡ was
            → cons_option (child_at heading trust (n ∷ h) m p) now ≡ cons_option (child_at heading trust h m p) was
        both same rest =
            ap (λ (o : Option Node). cons_option o now) same
            ∙ ap (λ (ns : List Node). cons_option (child_at heading trust h m p) ns) rest

        by_child : (o : Option Node) → child_at heading trust h m p ≡ o → (page_of p == m.page) ≡ true
            → any test (cons_option o was) ≡ false → (any test was ≡ false → now ≡ was)
            → cons_option (child_at heading trust (n ∷ h) m p) now ≡ cons_option (child_at heading trust h m p) was
        by_child None e there none rest =
            both (step m p there ok (λ c is. let apart : Some c ≡ None = sym is ∙ e in cc)) (rest none)
        by_child (Some c) e there none rest =
            let parts : (test c ≡ false) × (any test was ≡ false) = or_parts (test c) (any test was) none in
            both (step m p there ok (λ d is. let equal : Some c ≡ Some d = sym e ∙ is in
            let same : c ≡ d = cc in subst (λ (x : Node). test x ≡ false) same parts.0)) (rest parts.1)

        by_page : (b : Bool) → (page_of p == m.page) ≡ b
            → any test (filter_map (child_at heading trust h m) (cond b (p ∷ inside) inside)) ≡ false
            → (any test was ≡ false → now ≡ was)
            → filter_map (child_at heading trust (n ∷ h) m) (cond b (p ∷ inside) inside)
            ≡ filter_map (child_at heading trust h m) (cond b (p ∷ inside) inside)
        by_page true e none rest = by_child (child_at heading trust h m p) refl e none rest
        by_page false e none rest = rest none

    same_children : (m : Node) → test m ≡ false → any test (children heading trust h m) ≡ false
        → children heading trust (n ∷ h) m ≡ children heading trust h m
    same_children m ok none = places m ok ∙ same_among m ok (written_places (events_of h)) none

    same_below : (ms : List Node) → any test ms ≡ false → any test (flat_map (children heading trust h) ms) ≡ false
        → flat_map (children heading trust (n ∷ h)) ms ≡ flat_map (children heading trust h) ms
    same_below [] ok none = refl
    same_below (m ∷ ms) ok none =
        let here = or_parts (test m) (any test ms) ok in
        let under = or_parts (any test (children heading trust h m)) (any test (flat_map (children heading trust h) ms))
        (sym (list_any-append test (children heading trust h m) (flat_map (children heading trust h) ms)) ∙ none) in
        ap (λ (ns : List Node). ns ++ flat_map (children heading trust (n ∷ h)) ms) (same_children m here.0 under.0)
        ∙ ap (λ (ns : List Node). children heading trust h m ++ ns) (same_below ms here.1 under.1)

    module _ (roots : roots_of (events_of (n ∷ h)) ≡ roots_of (events_of h)) where
      same_level : (level : ℕ) → any test (nodes_at heading trust h level) ≡ false
          → any test (nodes_at heading trust h (suc level)) ≡ false
          → nodes_at heading trust (n ∷ h) level ≡ nodes_at heading trust h level
          → nodes_at heading trust (n ∷ h) (suc level) ≡ nodes_at heading trust h (suc level)
      same_level level ok next above =
          ap (λ (rs : List Declared). flat_map (starts_at heading (suc level)) rs
          ++ flat_map (children heading trust (n ∷ h)) (nodes_at heading trust (n ∷ h) level)) roots
          ∙ ap (λ (ns : List Node). starts ++ flat_map (children heading trust (n ∷ h)) ns) above
          ∙ ap (λ (ns : List Node). starts ++ ns) (same_below (nodes_at heading trust h level) ok
          (or_parts (any test starts) (any test below) (sym (list_any-append test starts below) ∙ next)).1)
        where
          starts : List Node
          starts = flat_map (starts_at heading (suc level)) (roots_of (events_of h))

          below : List Node
          below = flat_map (children heading trust h) (nodes_at heading trust h level)

      pub same_tree : any test (tree heading trust h) ≡ false → tree heading trust (n ∷ h) ≡ tree heading trust h
      unfolding tree
      same_tree none =
          let parts = any_four (nodes_at heading trust h 0) (nodes_at heading trust h 1) (nodes_at heading trust h 2)
          (nodes_at heading trust h 3) none in
          let zeroth : nodes_at heading trust (n ∷ h) 0 ≡ nodes_at heading trust h 0 =
          ap (λ (rs : List Declared). flat_map (starts_at heading 0) rs) roots in
          let first = same_level 0 parts.0 parts.1 zeroth in
          let second = same_level 1 parts.1 parts.2 first in
          let third = same_level 2 parts.2 parts.3 second in
          ap (λ (ns : List Node). ns ++ nodes_at heading trust (n ∷ h) 1 ++ nodes_at heading trust (n ∷ h) 2
          ++ nodes_at heading trust (n ∷ h) 3) zeroth
          ∙ ap (λ (ns : List Node). nodes_at heading trust h 0 ++ ns ++ nodes_at heading trust (n ∷ h) 2
          ++ nodes_at heading trust (n ∷ h) 3) first
          ∙ ap (λ (ns : List Node). nodes_at heading trust h 0 ++ nodes_at heading trust h 1 ++ ns
          ++ nodes_at heading trust (n ∷ h) 3) second
          ∙ ap (λ (ns : List Node). nodes_at heading trust h 0 ++ nodes_at heading trust h 1 ++ nodes_at heading trust h 2
          ++ ns) third

-- ---- what a place holds, and where it leads

abbrev noted_as : Event → (ℕ → Cover) → (ℕ → Cover) → ℕ → Noted
noted_as e covers tops position = record { event = e; covers = covers; tops = tops; position = position }

abbrev is_dsb : Event → Bool
is_dsb (Dsb pe dsb) = true
is_dsb _ = false

-- where a place leads that holds this
abbrev leads : Node → ℕ → Option ℕ → Option Node
leads m place holds = holds >>= (λ value. next_of m.kind m.level value >>= (λ next. Some (node_below m place next)))

module _ (heading : Heading) (trust : Trust) (place : ℕ) where
  -- what it holds where it is emptied, or not
  abbrev held_by : Bool → Option ValidWrite → Option ℕ
  held_by gone found =
      found >>= (λ w. cond (gone || cleansed_everywhere heading trust place w.since) None (Some w.value))

  same_cleansed : (e : Event) (covers tops : ℕ → Cover) (k : ℕ) (since : List Noted) → is_dsb e ≡ false
      → cleansed_everywhere heading trust place (noted_as e covers tops k ∷ since) ≡ cleansed_everywhere heading trust place since
  same_cleansed (Dsb pe dsb) covers tops k since other = cc
  same_cleansed e covers tops k since other = refl

  later_held : (gone : Bool) (e : Event) (covers tops : ℕ → Cover) (k : ℕ) (found : Option ValidWrite)
      → is_dsb e ≡ false → held_by gone (later (noted_as e covers tops k) found) ≡ held_by gone found
  later_held gone e covers tops k None other = refl
  later_held gone e covers tops k (Some w) other =
      ap (λ (b : Bool). cond (gone || b) None (Some w.value)) (same_cleansed e covers tops k w.since other)

  -- what is cleansed stays so
  stays_cleansed : (n : Noted) (since : List Noted) → cleansed_everywhere heading trust place since ≡ true
      → cleansed_everywhere heading trust place (n ∷ since) ≡ true
  stays_cleansed n since all =
      every_wider heading.pes (λ p. cleansed heading trust place p since) (λ p. cleansed heading trust place p (n ∷ since))
      (λ p one. or_later (answers_one (full_step heading trust place p n.position) n.event since)
      (answered_where (full_step heading trust place p) since)
      (answers_one (second_step heading trust place p n.position) n.event since)
      (answered_where (second_step heading trust place p) since) one) all

-- the page below a place hangs at it
leads_to : (m : Node) (place : ℕ) (holds : Option ℕ) (d : Node) → leads m place holds ≡ Some d
    → (next : ℕ) × (d ≡ node_below m place next)
leads_to m place None d e = cc
leads_to m place (Some value) d e = by_next (next_of m.kind m.level value) e
  where
    by_next : (found : Option ℕ) → (found >>= (λ next. Some (node_below m place next))) ≡ Some d
        → (next : ℕ) × (d ≡ node_below m place next)
    by_next None e = cc
    by_next (Some next) e = (next, let same : d ≡ node_below m place next = cc in same)

-- ---- each kind of event

abbrev is_other : Event → Bool
is_other (Init pe page) = false
is_other (Write pe at value) = false
is_other (Dsb pe dsb) = false
is_other _ = true

any_none : (ms : List Node) → any (λ m. false) ms ≡ false
any_none [] = refl
any_none (m ∷ ms) = any_none ms

module _ (heading : Heading) (trust : Trust) (h : List Noted) (covers tops : ℕ → Cover) (k : ℕ) where
  -- one that is no write, init or DSB
  same_emptied : (e : Event) → is_other e ≡ true → (kind : Kind) (level place : ℕ)
      → emptied heading trust kind level place (noted_as e covers tops k ∷ h) ≡ emptied heading trust kind level place h
  same_emptied (Init pe page) is = cc
  same_emptied (Write pe at value) is = cc
  same_emptied (Dsb pe dsb) is = cc
  same_emptied e is = λ kind level place. refl

  other_step : (e : Event) → is_other e ≡ true → Step heading trust h (noted_as e covers tops k) (λ m. false)
  other_step (Init pe page) is = cc
  other_step (Write pe at value) is = cc
  other_step (Dsb pe dsb) is = cc
  other_step e is = λ m place there ok below.
      ap (λ (gone : Bool). leads m place (held_by heading trust place gone
      (later (noted_as e covers tops k) (last_valid m.kind m.level place h)))) (same_emptied e is m.kind m.level place)
      ∙ ap (leads m place) (later_held heading trust place (emptied heading trust m.kind m.level place h) e covers tops k
      (last_valid m.kind m.level place h) refl)

  -- a write
  module _ (pe at value : ℕ) where
    abbrev written : Noted
    written = noted_as (Write pe at value) covers tops k

    abbrev found_now : Bool → Option ValidWrite → Option ValidWrite
    found_now here found = cond here (Some (record { value = value; since = [] })) (later written found)

    no_next : (m : Node) → is_touched at value m ≡ false → (page_of at == m.page) ≡ true
        → next_of m.kind m.level value ≡ None
    no_next m ok there =
        by_next (next_of m.kind m.level value)
        (ap (λ (b : Bool). b && is_some (next_of m.kind m.level value)) (sym same)
        ∙ (or_parts (m.page == page_of at && is_some (next_of m.kind m.level value)) (begins_at at m.above) ok).0)
      where
        same : (m.page == page_of at) ≡ true
        same = eq-eqb m.page (page_of at) (sym (eqb-true (page_of at) m.page there))

        by_next : (o : Option ℕ) → is_some o ≡ false → o ≡ None
        by_next None e = refl
        by_next (Some next) e = cc

    -- where the write makes no last valid value
    still_emptied : (m : Node) (place : ℕ) → (at == place && is_valid m.kind m.level value) ≡ false
        → emptied heading trust m.kind m.level place (written ∷ h) ≡ emptied heading trust m.kind m.level place h
    still_emptied m place off =
        ap (λ (b : Bool). empties_tables heading.version && (not b && emptied_in heading trust 3 m.kind m.level place h)) off

    leads_same : (m : Node) (place : ℕ) (here : Bool) (found : Option ValidWrite) (now before : Bool)
        → (here ≡ false → now ≡ before)
        → (here ≡ true → (next_of m.kind m.level value ≡ None)
        × (leads m place (held_by heading trust place before found) ≡ None))
        → leads m place (held_by heading trust place now (found_now here found))
        ≡ leads m place (held_by heading trust place before found)
    leads_same m place true found now before goes_on nowhere =
        by_cut (now || cleansed_everywhere heading trust place []) (nowhere refl).0 ∙ sym (nowhere refl).1
      where
        by_cut : (b : Bool) → next_of m.kind m.level value ≡ None → leads m place (cond b None (Some value)) ≡ None
        by_cut true e = refl
        by_cut false e = ap (λ (o : Option ℕ). o >>= (λ next. Some (node_below m place next))) e
    leads_same m place false found now before goes_on nowhere =
        ap (leads m place) (later_held heading trust place now (Write pe at value) covers tops k found refl
        ∙ ap (λ (b : Bool). held_by heading trust place b found) (goes_on refl))

    write_step : Step heading trust h written (is_touched at value)
    write_step m place there ok below =
        leads_same m place (at == place && is_valid m.kind m.level value) (last_valid m.kind m.level place h)
        (emptied heading trust m.kind m.level place (written ∷ h)) (emptied heading trust m.kind m.level place h)
        (still_emptied m place) (λ here. let same : at ≡ place = eqb-true at place (and_parts (at == place) (is_valid m.kind m.level value) here).0 in (
          no_next m ok (subst (λ (q : ℕ). (page_of q == m.page) ≡ true) (sym same) there),
          nowhere same (child_at heading trust h m place) refl,
        ))
      where
        nowhere : at ≡ place → (o : Option Node) → child_at heading trust h m place ≡ o → o ≡ None
        nowhere same None e = refl
        nowhere same (Some d) e =
            let hangs = leads_to m place (held heading trust m.kind m.level place h) d e in
            let apart : begins_at at d.above ≡ false =
            (or_parts (d.page == page_of at && is_some (next_of d.kind d.level value)) (begins_at at d.above) (below d e)).1 in
            let here : begins_at at d.above ≡ true =
            ap (λ (x : Node). begins_at at x.above) hangs.1 ∙ eq-eqb place at (sym same) in
            cc

    write_places : Places heading trust h written (is_touched at value)
    write_places m ok = by_known (among at (written_places (events_of h))) refl
      where
        inside : List ℕ
        inside = filter (λ p. page_of p == m.page) (written_places (events_of h))

        nowhere : (page_of at == m.page) ≡ true → among at (written_places (events_of h)) ≡ false
            → child_at heading trust (written ∷ h) m at ≡ None
        nowhere there unknown =
            let before : child_at heading trust h m at ≡ None =
            ap (λ (o : Option ValidWrite). leads m at (held_by heading trust at (emptied heading trust m.kind m.level at h) o))
            (none_valid m.kind m.level at h unknown) in
            leads_same m at (at == at && is_valid m.kind m.level value) (last_valid m.kind m.level at h)
            (emptied heading trust m.kind m.level at (written ∷ h)) (emptied heading trust m.kind m.level at h)
            (still_emptied m at) (λ here. (no_next m ok there, before))
            ∙ before

        by_page : (b : Bool) → (page_of at == m.page) ≡ b → among at (written_places (events_of h)) ≡ false
            → filter_map (child_at heading trust (written ∷ h) m) (cond b (at ∷ inside) inside)
            ≡ filter_map (child_at heading trust (written ∷ h) m) inside
        by_page true there unknown =
            ap (λ (o : Option Node). cons_option o (filter_map (child_at heading trust (written ∷ h) m) inside))
            (nowhere there unknown)
        by_page false there unknown = refl

        by_known : (b : Bool) → among at (written_places (events_of h)) ≡ b
            → filter_map (child_at heading trust (written ∷ h) m) (filter (λ p. page_of p == m.page)
            (cond b (written_places (events_of h)) (at ∷ written_places (events_of h))))
            ≡ filter_map (child_at heading trust (written ∷ h) m) inside
        by_known true known = refl
        by_known false unknown = by_page (page_of at == m.page) refl unknown

  -- a DSB
  module _ (pe : ℕ) (dsb : Barrier) where
    abbrev answered : Noted
    answered = noted_as (Dsb pe dsb) covers tops k

    dsb_step : Step heading trust h answered (is_cut heading trust (answered ∷ h))
    dsb_step m place there ok below = by_write (last_valid m.kind m.level place h) refl
      where
        before : Bool
        before = emptied heading trust m.kind m.level place h

        now : Bool
        now = emptied heading trust m.kind m.level place (answered ∷ h)

        gone_before : ValidWrite → Bool
        gone_before w = before || cleansed_everywhere heading trust place w.since

        gone_now : ValidWrite → Bool
        gone_now w = now || cleansed_everywhere heading trust place (answered ∷ w.since)

        stays_emptied : before ≡ true → now ≡ true
        stays_emptied t =
            let parts = and_parts (empties_tables heading.version) (emptied_in heading trust 3 m.kind m.level place h) t in
            and_from (empties_tables heading.version) (emptied_in heading trust 3 m.kind m.level place (answered ∷ h))
            parts.0 (or_left (emptied_in heading trust 3 m.kind m.level place h) (is_empty_above heading trust
            (λ under older. is_some (held_unless heading trust (emptied_in heading trust 2 m.kind (suc m.level) under older)
            m.kind (suc m.level) under older)) m.kind m.level place (answered ∷ h)) parts.1)

        stays_gone : (w : ValidWrite) → gone_before w ≡ true → gone_now w ≡ true
        stays_gone w t =
            elim (or_cases before (cleansed_everywhere heading trust place w.since) t) [
              | inl e ↦ or_left now (cleansed_everywhere heading trust place (answered ∷ w.since)) (stays_emptied e)
              | inr c ↦ or_right now (cleansed_everywhere heading trust place (answered ∷ w.since))
                  (stays_cleansed heading trust place answered w.since c)
            ]

        cut : (o : Option ValidWrite) → last_valid m.kind m.level place h ≡ o → (d : Node)
            → leads m place (held_by heading trust place before o) ≡ Some d
            → held_by heading trust place now (later answered o) ≡ None → ⊥
        cut o is d leading none =
            let hangs = leads_to m place (held_by heading trust place before o) d leading in
            let child : child_at heading trust h m place ≡ Some d =
            ap (λ (w : Option ValidWrite). leads m place (held_by heading trust place before w)) is ∙ leading in
            let whole : is_cut heading trust (answered ∷ h) d ≡ false = below d child in
            let off : is_cut heading trust (answered ∷ h) d ≡ true =
            ap (is_cut heading trust (answered ∷ h)) hangs.1
            ∙ ap (λ (w : Option ValidWrite). is_none (held_by heading trust place now (later answered w))) is
            ∙ ap (λ (v : Option ℕ). is_none v) none in
            true≢false (sym off ∙ whole)

        by_child : (w : ValidWrite) → last_valid m.kind m.level place h ≡ Some w
            → gone_before w ≡ false → gone_now w ≡ true
            → (x : Option Node) → leads m place (Some w.value) ≡ x → None ≡ x
        by_child w is was is_now None leading = refl
        by_child w is was is_now (Some d) leading =
            absurd (cut (Some w) is d
            (ap (λ (b : Bool). leads m place (cond b None (Some w.value))) was ∙ leading)
            (ap (λ (b : Bool). cond b None (Some w.value)) is_now))

        by_gone : (w : ValidWrite) → last_valid m.kind m.level place h ≡ Some w
            → (b : Bool) → gone_before w ≡ b → (a : Bool) → gone_now w ≡ a
            → leads m place (cond a None (Some w.value)) ≡ leads m place (cond b None (Some w.value))
        by_gone w is true was true is_now = refl
        by_gone w is true was false is_now = absurd (true≢false (sym (stays_gone w was) ∙ is_now))
        by_gone w is false was true is_now = by_child w is was is_now (leads m place (Some w.value)) refl
        by_gone w is false was false is_now = refl

        by_write : (o : Option ValidWrite) → last_valid m.kind m.level place h ≡ o
            → leads m place (held_by heading trust place now (later answered o))
            ≡ leads m place (held_by heading trust place before o)
        by_write None is = refl
        by_write (Some w) is = by_gone w is (gone_before w) refl (gone_now w) refl

  by_event : (e : Event) → leaves heading trust (noted_as e covers tops k ∷ h) (tree heading trust h) e ≡ true
      → tree heading trust (noted_as e covers tops k ∷ h) ≡ tree heading trust h
  by_event (Init pe page) left = cc
  by_event (Null pe page) left = cc
  by_event (Root pe kind lock page) left = cc
  by_event (Unroot pe page) left = cc
  by_event (Write pe at value) left =
      same_tree heading trust h (written pe at value) (is_touched at value) (write_step pe at value)
      (write_places pe at value) refl (not-true (any (is_touched at value) (tree heading trust h)) left)
  by_event (Dsb pe dsb) left =
      same_tree heading trust h (answered pe dsb) (is_cut heading trust (answered pe dsb ∷ h)) (dsb_step pe dsb)
      (λ m ok. refl) refl (not-true (any (is_cut heading trust (answered pe dsb ∷ h)) (tree heading trust h)) left)
  by_event e left =
      same_tree heading trust h (noted_as e covers tops k) (λ m. false) (other_step e refl) (λ m ok. refl) refl
      (any_none (tree heading trust h))

-- ---- what stays

module _ (heading : Heading) (trust : Trust) (n : Noted) (h : List Noted)
    (left : leaves heading trust (n ∷ h) (tree heading trust h) n.event ≡ true) where
  pub tree_stays : tree heading trust (n ∷ h) ≡ tree heading trust h
  tree_stays = by_event heading trust h n.covers n.tops n.position n.event left

  may_stay : (e : Event) → leaves heading trust (n ∷ h) (tree heading trust h) e ≡ true → (page : ℕ) (before : Bool)
      → may_be_fresh e page before ≡ before
  may_stay (Init pe at) left page before = cc
  may_stay (Null pe at) left page before = cc
  may_stay e left page before = refl

  pub fresh_stays : (page : ℕ) → is_fresh heading trust (n ∷ h) page ≡ is_fresh heading trust h page
  fresh_stays page =
      ap (λ (b : Bool). b && not (in_tree heading trust (n ∷ h) page))
      (may_stay n.event left page (is_fresh heading trust h page))
      ∙ ap (λ (ns : List Node). is_fresh heading trust h page && not (is_some (find (λ m. m.page == page) ns))) tree_stays
      ∙ by_history h
    where
      twice : (a b : Bool) → ((a && b) && b) ≡ (a && b)
      twice = proved 2 (λ a b. Is ((a && b) && b) (a && b)) refl

      by_history : (g : List Noted)
          → (is_fresh heading trust g page && not (in_tree heading trust g page)) ≡ is_fresh heading trust g page
      by_history [] = refl
      by_history (m ∷ g) =
          twice (may_be_fresh m.event page (is_fresh heading trust g page)) (not (in_tree heading trust (m ∷ g) page))

-- trees and fresh pages that an event leaves are those after it
pub trees_stay : (heading : Heading) (trust : Trust) (h : List Noted) (n : Noted) (nodes : List Node) (fresh : List ℕ)
    → leaves heading trust (n ∷ h) nodes n.event ≡ true
    → (nodes ≡ tree heading trust h) × ((page : ℕ) → among page fresh ≡ is_fresh heading trust h page)
    → (nodes ≡ tree heading trust (n ∷ h)) × ((page : ℕ) → among page fresh ≡ is_fresh heading trust (n ∷ h) page)
trees_stay heading trust h n nodes fresh told before =
    let left : leaves heading trust (n ∷ h) (tree heading trust h) n.event ≡ true =
    subst (λ (ns : List Node). leaves heading trust (n ∷ h) ns n.event ≡ true) before.0 told in
    (before.0 ∙ sym (tree_stays heading trust n h left), λ page. before.1 page ∙ sym (fresh_stays heading trust n h left page))
