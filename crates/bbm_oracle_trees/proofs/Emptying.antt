-- The emptied tables after one more event.
use Rattle.bbm_rules.proofs.Common.{◌≡◌, ℕ, zero, suc, ◌+◌, ◌<◌, ◌≤◌, ◌&&◌, ◌||◌, ◌==◌, not, Bool, true, false, cond, List, []}
use Rattle.bbm_rules.proofs.Common.{◌∷◌, ◌++◌, length, take, reverse, get_or, Option, Some, None, is_some, refl, sym, ◌∙◌, ap}
use Rattle.bbm_rules.proofs.Common.{subst, arith, fun_ext, true≢false, and_parts, eqb-true, ne_eqb, or-false, and-false}
use Rattle.bbm_rules.proofs.Common.{proved, Is, list_any-append, option_and_then, option_map_or, Heading, Event, Init, Null, Root, Unroot}
use Rattle.bbm_rules.proofs.Common.{Write, Dsb, Dmb, Isb, Tlbi, Msr, Lock, Unlock, Trust, Kind, Noted, any, ValidWrite}
use Rattle.bbm_rules.proofs.Common.{last_valid, later, events_of, next_of, places_in, same_kind, is_valid, page_of}
use Rattle.bbm_regimes.specs.declared.regime.Kind.TheVariants.{El2, S2, Ttbr0, Ttbr1}
use Rattle.bbm_lemmas.proofs.Elements.{taken_more}
use Rattle.bbm_lemmas.proofs.Tests.{any_reverse}
use Rattle.bbm_rules.proofs.EmptiedLaw.{same_levels}
use Rattle.bbm_rules.proofs.TreeLaw.{table_level}
use Rattle.bbm_rules.specs.Held.{above_everywhere, emptied, emptied_after, emptied_in, empties_tables, held_unless}
use Rattle.bbm_rules.specs.Held.{is_empty_above, last_valid_after}
use Rattle.bbm_oracle_patterns.specs.Kept.{note_of, notes_of}
use Rattle.bbm_oracle_patterns.specs.PlacePhases.{value_above}
use Rattle.bbm_oracle_patterns.specs.declared.kept.Kept.{Kept}
use Rattle.bbm_oracle_patterns.specs.declared.search.TreePlace.{TreePlace}
use Rattle.bbm_oracle_trees.specs.Emptied.{Adds, AddsAll, AreEmptied, Goes, WereEmptied, ends_last, holds_by, is_among}
use Rattle.bbm_oracle_trees.specs.Emptied.{is_barrier, is_empty, is_new, is_seat, links}
use Rattle.bbm_oracle_trees.specs.Past.{Past, notes}

-- ---- one place

same_kinds : (a b : Kind) → same_kind a b ≡ true → a ≡ b
same_kinds El2 El2 e = refl
same_kinds El2 S2 e = absurd (true≢false (sym e))
same_kinds El2 Ttbr0 e = absurd (true≢false (sym e))
same_kinds El2 Ttbr1 e = absurd (true≢false (sym e))
same_kinds S2 El2 e = absurd (true≢false (sym e))
same_kinds S2 S2 e = refl
same_kinds S2 Ttbr0 e = absurd (true≢false (sym e))
same_kinds S2 Ttbr1 e = absurd (true≢false (sym e))
same_kinds Ttbr0 El2 e = absurd (true≢false (sym e))
same_kinds Ttbr0 S2 e = absurd (true≢false (sym e))
same_kinds Ttbr0 Ttbr0 e = refl
same_kinds Ttbr0 Ttbr1 e = absurd (true≢false (sym e))
same_kinds Ttbr1 El2 e = absurd (true≢false (sym e))
same_kinds Ttbr1 S2 e = absurd (true≢false (sym e))
same_kinds Ttbr1 Ttbr0 e = absurd (true≢false (sym e))
same_kinds Ttbr1 Ttbr1 e = refl

-- a test that is asked of this place, or of the place that it is
same_seat : (kind k : Kind) (level l at place : ℕ) (f : Kind → ℕ → ℕ → Bool) →
    ((same_kind kind k && (level == l && at == place)) && f kind level at)
    ≡ (same_kind kind k && (level == l && (at == place && f k l place)))
same_seat kind k level l at place f = by (same_kind kind k) refl (level == l) refl (at == place) refl
  where
    by : (a : Bool) → same_kind kind k ≡ a → (b : Bool) → (level == l) ≡ b → (c : Bool) → (at == place) ≡ c
        → ((a && (b && c)) && f kind level at) ≡ (a && (b && (c && f k l place)))
    by false ea b eb c ec = refl
    by true ea false eb c ec = refl
    by true ea true eb false ec = refl
    by true ea true eb true ec =
        ap (λ (x : Kind). f x level at) (same_kinds kind k ea)
        ∙ ap (λ (x : ℕ). f k x at) (eqb-true level l eb)
        ∙ ap (λ (x : ℕ). f k l x) (eqb-true at place ec)

-- ---- those that go on

module _ (e : Event) (seats left : List TreePlace) (i : ℕ) (x : TreePlace) (lt : i < length seats)
    (is : x ≡ get_or seats i x)
    (before : (k : Kind) (l place : ℕ) → is_among left k l place
    ≡ (not (ends_last k l place e) && is_among (take i seats) k l place)) where
  one_more : (k : Kind) (l place : ℕ) → is_among (take (i + 1) seats) k l place
      ≡ (is_among (take i seats) k l place || (is_seat k l place x || false))
  one_more k l place =
      ap (λ (xs : List TreePlace). is_among xs k l place) (taken_more seats i x lt is)
      ∙ list_any-append (is_seat k l place) (take i seats) (x ∷ [])

  ends_there : (k : Kind) (l place : ℕ) → is_seat k l place x ≡ true
      → ends_last x.kind x.level x.place e ≡ ends_last k l place e
  ends_there k l place at =
      let outer = and_parts (same_kind x.kind k) (x.level == l && x.place == place) at in
      let inner = and_parts (x.level == l) (x.place == place) outer.1 in
      ap (λ (y : Kind). ends_last y x.level x.place e) (same_kinds x.kind k outer.0)
      ∙ ap (λ (y : ℕ). ends_last k y x.place e) (eqb-true x.level l inner.0)
      ∙ ap (λ (y : ℕ). ends_last k l y e) (eqb-true x.place place inner.1)

  pub lasting_keeps : ends_last x.kind x.level x.place e ≡ false → (k : Kind) (l place : ℕ)
      → is_among (left ++ x ∷ []) k l place
      ≡ (not (ends_last k l place e) && is_among (take (i + 1) seats) k l place)
  lasting_keeps goes_on k l place =
      list_any-append (is_seat k l place) left (x ∷ [])
      ∙ ap (λ (b : Bool). b || (is_seat k l place x || false)) (before k l place)
      ∙ by (is_among (take i seats) k l place) (is_seat k l place x) refl
      ∙ ap (λ (b : Bool). not (ends_last k l place e) && b) (sym (one_more k l place))
    where
      by : (a b : Bool) → is_seat k l place x ≡ b
          → ((not (ends_last k l place e) && a) || (b || false)) ≡ (not (ends_last k l place e) && (a || (b || false)))
      by a true at =
          let stays : ends_last k l place e ≡ false = sym (ends_there k l place at) ∙ goes_on in
          ap (λ (t : Bool). (not t && a) || true) stays ∙ sym (ap (λ (t : Bool). not t && (a || true)) stays)
      by a false at = proved 2 (λ t c. Is ((not t && c) || false) (not t && (c || false))) refl (ends_last k l place e) a

  pub lasting_drops : ends_last x.kind x.level x.place e ≡ true → (k : Kind) (l place : ℕ)
      → is_among left k l place ≡ (not (ends_last k l place e) && is_among (take (i + 1) seats) k l place)
  lasting_drops gone k l place =
      before k l place
      ∙ by (is_among (take i seats) k l place) (is_seat k l place x) refl
      ∙ ap (λ (b : Bool). not (ends_last k l place e) && b) (sym (one_more k l place))
    where
      by : (a b : Bool) → is_seat k l place x ≡ b
          → (not (ends_last k l place e) && a) ≡ (not (ends_last k l place e) && (a || (b || false)))
      by a true at =
          let over : ends_last k l place e ≡ true = sym (ends_there k l place at) ∙ gone in
          ap (λ (t : Bool). not t && a) over ∙ sym (ap (λ (t : Bool). not t && (a || true)) over)
      by a false at = proved 2 (λ t c. Is (not t && c) (not t && (c || false))) refl (ends_last k l place e) a

-- ---- those that are found

-- a test that is asked of this kind and level, or of those that they are
same_tables : (kind k : Kind) (level l : ℕ) (f : Kind → ℕ → Bool) →
    (same_kind kind k && (level == l && f k l)) ≡ (same_kind kind k && (level == l && f kind level))
same_tables kind k level l f = by (same_kind kind k) refl (level == l) refl
  where
    by : (a : Bool) → same_kind kind k ≡ a → (b : Bool) → (level == l) ≡ b
        → (a && (b && f k l)) ≡ (a && (b && f kind level))
    by false ea b eb = refl
    by true ea false eb = refl
    by true ea true eb =
        sym (ap (λ (x : Kind). f x level) (same_kinds kind k ea) ∙ ap (λ (x : ℕ). f k x) (eqb-true level l eb))

-- where the event makes a place such a table, and where it makes none
module _ (kind : Kind) (level : ℕ) (e : Event) (test : Kind → ℕ → ℕ → Bool) (old new : List TreePlace) where
  abbrev Linked : Type 0
  Linked = Adds kind level (λ k l place. links k l place e && test k l place) old new

  here : (k : Kind) (l place : ℕ) (b : Bool) → links kind level place e ≡ b
      → (same_kind kind k && (level == l && (b && test k l place)))
      ≡ (same_kind kind k && (level == l && (links k l place e && test k l place)))
  here k l place b is =
      same_tables kind k level l (λ k l. b && test k l place)
      ∙ ap (λ (x : Bool). same_kind kind k && (level == l && (x && test kind level place))) (sym is)
      ∙ sym (same_tables kind k level l (λ k l. links k l place e && test k l place))

  pub linked_table : (at : ℕ) → ((place : ℕ) → links kind level place e ≡ (at == place))
      → ((k : Kind) (l place : ℕ) → is_among new k l place
      ≡ (is_among old k l place || ((same_kind kind k && (level == l && at == place)) && test kind level at))) → Linked
  linked_table at is added k l place =
      added k l place
      ∙ ap (λ (b : Bool). is_among old k l place || b)
      (same_seat kind k level l at place test ∙ here k l place (at == place) (is place))

  pub linked_none : ((place : ℕ) → links kind level place e ≡ false) → new ≡ old → Linked
  linked_none is same k l place =
      ap (λ (xs : List TreePlace). is_among xs k l place) same
      ∙ proved 3 (λ a b c. Is a (a || (b && (c && false)))) refl (is_among old k l place) (same_kind kind k) (level == l)
      ∙ ap (λ (b : Bool). is_among old k l place || b) (here k l place false (is place))

-- what a pass over the events adds
module _ (kind : Kind) (level : ℕ) (test : Kind → ℕ → ℕ → Bool) (start : List TreePlace) where
  abbrev pub Added : List Event → List TreePlace → Type 0
  Added es found = Adds kind level (λ k l place. any (links k l place) es && test k l place) start found

  pub added_none : Added [] start
  added_none k l place =
      proved 3 (λ a b c. Is a (a || (b && (c && false)))) refl (is_among start k l place) (same_kind kind k) (level == l)

  pub added_more : (es : List Event) (i : ℕ) (e : Event) (found more : List TreePlace) → i < length es → e ≡ get_or es i e
      → Added (take i es) found → Adds kind level (λ k l place. links k l place e && test k l place) found more
      → Added (take (i + 1) es) more
  added_more es i e found more lt is before now k l place =
      now k l place
      ∙ ap (λ (b : Bool). b || (same_kind kind k && (level == l && (links k l place e && test k l place))))
      (before k l place)
      ∙ proved 6 (λ a b c m n t. Is ((a || (b && (c && (m && t)))) || (b && (c && (n && t))))
      (a || (b && (c && ((m || (n || false)) && t))))) refl
      (is_among start k l place) (same_kind kind k) (level == l) (any (links k l place) (take i es))
      (links k l place e) (test k l place)
      ∙ ap (λ (b : Bool). is_among start k l place || (same_kind kind k && (level == l && (b && test k l place))))
      (sym (ap (any (links k l place)) (taken_more es i e lt is)
      ∙ list_any-append (links k l place) (take i es) (e ∷ [])))

-- ---- what is empty and above

module _ (heading : Heading) (trust : Trust) where
  -- by what is held one level deeper
  empty_alike : (kind : Kind) (level place : ℕ) (h : List Noted) (a b : ℕ → List Noted → Bool)
      → ((q : ℕ) → a q h ≡ b q h)
      → is_empty_above heading trust a kind level place h ≡ is_empty_above heading trust b kind level place h
  empty_alike kind level place h a b same =
      ap (λ (f : ℕ → Bool). option_map_or (λ (w : ValidWrite). option_map_or (λ next.
      above_everywhere heading trust place w.since && not (any f (places_in (events_of h) next)))
      (next_of kind level w.value) false) (last_valid kind level place h) false) (fun_ext same)

  empty_by : (old new : List TreePlace) (kind : Kind) (level place : ℕ) (h : List Noted)
      → ((q : ℕ) → is_among old kind (suc level) q ≡ is_among new kind (suc level) q)
      → is_empty heading trust old kind level place h ≡ is_empty heading trust new kind level place h
  empty_by old new kind level place h same =
      empty_alike kind level place h (holds_by heading trust old kind (suc level)) (holds_by heading trust new kind (suc level))
      (λ q. ap (λ (b : Bool). is_some (held_unless heading trust b kind (suc level) q h)) (same q))

  -- by the value that is above
  pub empty_found : (holds : ℕ → List Noted → Bool) (kind : Kind) (level place : ℕ) (h : List Noted) →
      option_map_or (λ value. option_map_or (λ next. not (any (λ below. holds below h) (places_in (events_of h) next)))
      (next_of kind level value) false) (value_above heading trust kind level place h) false
      ≡ is_empty_above heading trust holds kind level place h
  empty_found holds kind level place h = by_write (last_valid kind level place h)
    where
      nothing : ℕ → Bool
      nothing next = not (any (λ below. holds below h) (places_in (events_of h) next))

      by_above : (b : Bool) (value : ℕ) →
          option_map_or (λ v. option_map_or nothing (next_of kind level v) false) (cond b (Some value) None) false
          ≡ option_map_or (λ next. b && nothing next) (next_of kind level value) false
      by_above true value = refl
      by_above false value = never (next_of kind level value)
        where
          never : (o : Option ℕ) → false ≡ option_map_or (λ next. false && nothing next) o false
          never None = refl
          never (Some next) = refl

      by_write : (o : Option ValidWrite) →
          option_map_or (λ v. option_map_or nothing (next_of kind level v) false)
          (option_and_then (λ w. cond (above_everywhere heading trust place w.since) (Some w.value) None) o) false
          ≡ option_map_or (λ w. option_map_or (λ next. above_everywhere heading trust place w.since && nothing next)
          (next_of kind level w.value) false) o false
      by_write None = refl
      by_write (Some w) = by_above (above_everywhere heading trust place w.since) w.value

  pub empty_next : (holds : ℕ → List Noted → Bool) (kind : Kind) (level place : ℕ) (h : List Noted) (value next : ℕ)
      (r : Bool) → value_above heading trust kind level place h ≡ Some value → next_of kind level value ≡ Some next
      → r ≡ not (any (λ below. holds below h) (places_in (events_of h) next))
      → r ≡ is_empty_above heading trust holds kind level place h
  empty_next holds kind level place h value next r value_is next_is is =
      is
      ∙ sym (ap (λ (o : Option ℕ). option_map_or nothing o false) next_is)
      ∙ sym (ap (λ (o : Option ℕ). option_map_or (λ v. option_map_or nothing (next_of kind level v) false) o false) value_is)
      ∙ empty_found holds kind level place h
    where
      nothing : ℕ → Bool
      nothing next = not (any (λ below. holds below h) (places_in (events_of h) next))

  -- no table stands at level 3 or deeper
  empty_deep : (holds : ℕ → List Noted → Bool) (kind : Kind) (level place : ℕ) (h : List Noted) → 3 ≤ level
      → is_empty_above heading trust holds kind level place h ≡ false
  empty_deep holds kind level place h deep = by_write (last_valid kind level place h)
    where
      by_next : (w : ValidWrite) (o : Option ℕ) → next_of kind level w.value ≡ o
          → option_map_or (λ next. above_everywhere heading trust place w.since
          && not (any (λ below. holds below h) (places_in (events_of h) next))) o false ≡ false
      by_next w None e = refl
      by_next w (Some next) e =
          let up : level < 3 = table_level kind level w.value next e in absurd (omega (arith, up, deep))

      by_write : (o : Option ValidWrite) → option_map_or (λ (w : ValidWrite). option_map_or (λ next.
          above_everywhere heading trust place w.since && not (any (λ below. holds below h) (places_in (events_of h) next)))
          (next_of kind level w.value) false) o false ≡ false
      by_write None = refl
      by_write (Some w) = by_next w (next_of kind level w.value) refl

  -- what is so was written as a table
  module _ (kind : Kind) (level place : ℕ) where
    abbrev table_in : Option ValidWrite → Bool
    table_in found = option_map_or (λ w. is_some (next_of kind level w.value)) found false

    of_later : (n : Noted) (found : Option ValidWrite) → table_in (later n found) ≡ table_in found
    of_later n None = refl
    of_later n (Some w) = refl

    table_more : (e : Event) (n : Noted) (found : Option ValidWrite) (linked : Bool)
        → (table_in found ≡ true → linked ≡ true) → table_in (last_valid_after kind level place e n found) ≡ true
        → (links kind level place e || linked) ≡ true
    table_more (Write pe at value) n found linked before t =
        by (at == place) (is_valid kind level value) t
      where
        by : (a v : Bool) → table_in (cond (a && v) (Some (record { value = value; since = [] })) (later n found)) ≡ true
            → ((a && is_some (next_of kind level value)) || linked) ≡ true
        by true true t = ap (λ (b : Bool). b || linked) t
        by true false t =
            ap (λ (b : Bool). is_some (next_of kind level value) || b) (before (sym (of_later n found) ∙ t))
            ∙ proved 1 (λ a. Is (a || true) true) refl (is_some (next_of kind level value))
        by false v t = before (sym (of_later n found) ∙ t)
    table_more (Init pe page) n found linked before t = by (page == page_of place) t
      where
        by : (b : Bool) → table_in (cond b None (later n found)) ≡ true → linked ≡ true
        by true t = absurd (true≢false (sym t))
        by false t = before (sym (of_later n found) ∙ t)
    table_more e n found linked before t = before (sym (of_later n found) ∙ t)

    table_linked : (h : List Noted) → table_in (last_valid kind level place h) ≡ true
        → any (links kind level place) (events_of h) ≡ true
    table_linked [] t = absurd (true≢false (sym t))
    table_linked (n ∷ h) t =
        table_more n.event n (last_valid kind level place h) (any (links kind level place) (events_of h))
        (table_linked h) t

    empty_linked : (holds : ℕ → List Noted → Bool) (h : List Noted)
        → is_empty_above heading trust holds kind level place h ≡ true
        → any (links kind level place) (events_of h) ≡ true
    empty_linked holds h t = table_linked h (by_write (last_valid kind level place h) t)
      where
        by_next : (w : ValidWrite) (o : Option ℕ) → option_map_or (λ next. above_everywhere heading trust place w.since
            && not (any (λ below. holds below h) (places_in (events_of h) next))) o false ≡ true → is_some o ≡ true
        by_next w None t = absurd (true≢false (sym t))
        by_next w (Some next) t = refl

        by_write : (o : Option ValidWrite) → option_map_or (λ (w : ValidWrite). option_map_or (λ next.
            above_everywhere heading trust place w.since
            && not (any (λ below. holds below h) (places_in (events_of h) next)))
            (next_of kind level w.value) false) o false ≡ true → table_in o ≡ true
        by_write None t = absurd (true≢false (sym t))
        by_write (Some w) t = by_next w (next_of kind level w.value) t

  -- a pass over all events finds what is new
  module _ (emptied_there : List TreePlace) (h : List Noted) where
    abbrev new_there : Kind → ℕ → ℕ → Bool
    new_there kind level place = is_new heading trust emptied_there kind level place h

    pub all_found : (kind : Kind) (level : ℕ) (start found : List TreePlace) (es : List Event) → reverse es ≡ events_of h
        → Added kind level new_there start es found → Adds kind level new_there start found
    all_found kind level start found es are added k l place =
        added k l place
        ∙ ap (λ (b : Bool). is_among start k l place || (same_kind kind k && (level == l && (b && new_there k l place))))
        (sym (any_reverse (links k l place) es) ∙ ap (any (links k l place)) are)
        ∙ ap (λ (b : Bool). is_among start k l place || (same_kind kind k && (level == l && b)))
        (by (is_among emptied_there k l place) (is_empty heading trust emptied_there k l place h) refl)
      where
        by : (a b : Bool) → is_empty heading trust emptied_there k l place h ≡ b
            → (any (links k l place) (events_of h) && (not a && b)) ≡ (not a && b)
        by a true e =
            ap (λ (x : Bool). x && (not a && true))
            (empty_linked k l place (holds_by heading trust emptied_there k (suc l)) h e)
        by a false e =
            proved 2 (λ x y. Is (x && (not y && false)) (not y && false)) refl (any (links k l place) (events_of h)) a

    -- of the four kinds
    pub all_kinds : (level : ℕ) (none first second third fourth : List TreePlace) → none ≡ []
        → Adds El2 level new_there none first → Adds S2 level new_there first second
        → Adds Ttbr0 level new_there second third → Adds Ttbr1 level new_there third fourth
        → (k : Kind) (l place : ℕ) → is_among fourth k l place ≡ (level == l && new_there k l place)
    all_kinds level none first second third fourth nothing a b c d k l place =
        by k ∙ ap (λ (xs : List TreePlace). is_among xs k l place || (level == l && new_there k l place)) nothing
      where
        by : (k : Kind) → is_among fourth k l place ≡ (is_among none k l place || (level == l && new_there k l place))
        by El2 =
            d El2 l place ∙ or-false (is_among third El2 l place)
            ∙ c El2 l place ∙ or-false (is_among second El2 l place)
            ∙ b El2 l place ∙ or-false (is_among first El2 l place)
            ∙ a El2 l place
        by S2 =
            d S2 l place ∙ or-false (is_among third S2 l place)
            ∙ c S2 l place ∙ or-false (is_among second S2 l place)
            ∙ b S2 l place
            ∙ ap (λ (x : Bool). x || (level == l && new_there S2 l place))
            (a S2 l place ∙ or-false (is_among none S2 l place))
        by Ttbr0 =
            d Ttbr0 l place ∙ or-false (is_among third Ttbr0 l place)
            ∙ c Ttbr0 l place
            ∙ ap (λ (x : Bool). x || (level == l && new_there Ttbr0 l place))
            (b Ttbr0 l place ∙ or-false (is_among first Ttbr0 l place)
            ∙ a Ttbr0 l place ∙ or-false (is_among none Ttbr0 l place))
        by Ttbr1 =
            d Ttbr1 l place
            ∙ ap (λ (x : Bool). x || (level == l && new_there Ttbr1 l place))
            (c Ttbr1 l place ∙ or-false (is_among second Ttbr1 l place)
            ∙ b Ttbr1 l place ∙ or-false (is_among first Ttbr1 l place)
            ∙ a Ttbr1 l place ∙ or-false (is_among none Ttbr1 l place))

    -- they are added to those that are emptied
    pub level_added : (level : ℕ) (found new : List TreePlace) → new ≡ emptied_there ++ found
        → ((k : Kind) (l place : ℕ) → is_among found k l place ≡ (level == l && new_there k l place))
        → (k : Kind) (l place : ℕ) → is_among new k l place
        ≡ (is_among emptied_there k l place || (level == l && is_empty heading trust emptied_there k l place h))
    level_added level found new joined are k l place =
        ap (λ (xs : List TreePlace). is_among xs k l place) joined
        ∙ list_any-append (is_seat k l place) emptied_there found
        ∙ ap (λ (b : Bool). is_among emptied_there k l place || b) (are k l place)
        ∙ proved 3 (λ a b c. Is (a || (b && (not a && c))) (a || (b && c))) refl
        (is_among emptied_there k l place) (level == l) (is_empty heading trust emptied_there k l place h)

  -- ---- the levels, the deepest first

  abbrev LevelAdded : ℕ → List Noted → List TreePlace → List TreePlace → Type 0
  LevelAdded level h old new = (k : Kind) (l place : ℕ) → is_among new k l place
      ≡ (is_among old k l place || (level == l && is_empty heading trust old k l place h))

  apart : (level l : ℕ) (h : List Noted) (old new : List TreePlace) → (level ≡ l → ⊥) → LevelAdded level h old new
      → (k : Kind) (place : ℕ) → is_among new k l place ≡ is_among old k l place
  apart level l h old new other added k place =
      added k l place
      ∙ ap (λ (b : Bool). is_among old k l place || (b && is_empty heading trust old k l place h)) (ne_eqb level l other)
      ∙ or-false (is_among old k l place)

  pub levels_added : (h : List Noted) (s t u v : List TreePlace) → LevelAdded 2 h s t → LevelAdded 1 h t u
      → LevelAdded 0 h u v → AddsAll heading trust h s v
  levels_added h s t u v two one none = by
    where
      last : (l : ℕ) → (0 ≡ l → ⊥) → (k : Kind) (q : ℕ) → is_among v k l q ≡ is_among u k l q
      last l other k q = apart 0 l h u v other none k q

      middle : (l : ℕ) → (1 ≡ l → ⊥) → (k : Kind) (q : ℕ) → is_among u k l q ≡ is_among t k l q
      middle l other k q = apart 1 l h t u other one k q

      first : (l : ℕ) → (2 ≡ l → ⊥) → (k : Kind) (q : ℕ) → is_among t k l q ≡ is_among s k l q
      first l other k q = apart 2 l h s t other two k q

      by : (k : Kind) (l place : ℕ) → is_among v k l place
          ≡ (is_among s k l place || is_empty heading trust v k l place h)
      by k zero place =
          none k 0 place
          ∙ ap (λ (b : Bool). b || is_empty heading trust u k 0 place h)
          (middle 0 (λ e. omega (arith, e)) k place ∙ first 0 (λ e. omega (arith, e)) k place)
          ∙ ap (λ (b : Bool). is_among s k 0 place || b)
          (empty_by u v k 0 place h (λ q. sym (last 1 (λ e. omega (arith, e)) k q)))
      by k (suc zero) place =
          last 1 (λ e. omega (arith, e)) k place
          ∙ one k 1 place
          ∙ ap (λ (b : Bool). b || is_empty heading trust t k 1 place h) (first 1 (λ e. omega (arith, e)) k place)
          ∙ ap (λ (b : Bool). is_among s k 1 place || b)
          (empty_by t v k 1 place h (λ q. sym (last 2 (λ e. omega (arith, e)) k q ∙ middle 2 (λ e. omega (arith, e)) k q)))
      by k (suc (suc zero)) place =
          last 2 (λ e. omega (arith, e)) k place
          ∙ middle 2 (λ e. omega (arith, e)) k place
          ∙ two k 2 place
          ∙ ap (λ (b : Bool). is_among s k 2 place || b)
          (empty_by s v k 2 place h (λ q. sym (last 3 (λ e. omega (arith, e)) k q ∙ middle 3 (λ e. omega (arith, e)) k q
          ∙ first 3 (λ e. omega (arith, e)) k q)))
      by k (suc (suc (suc l))) place =
          let deep : 3 ≤ suc (suc (suc l)) = omega arith in
          last (suc (suc (suc l))) (λ e. omega (arith, e)) k place
          ∙ middle (suc (suc (suc l))) (λ e. omega (arith, e)) k place
          ∙ first (suc (suc (suc l))) (λ e. omega (arith, e)) k place
          ∙ sym (or-false (is_among s k (suc (suc (suc l))) place))
          ∙ ap (λ (b : Bool). is_among s k (suc (suc (suc l))) place || b)
          (sym (empty_deep (holds_by heading trust v k (suc (suc (suc (suc l))))) k (suc (suc (suc l))) place h deep))

  -- ---- one event more

  pub goes_at_barrier : (e : Event) (h : List Noted) (old lasts new : List TreePlace) → is_barrier e ≡ true
      → ((k : Kind) (l place : ℕ) → is_among lasts k l place ≡ (not (ends_last k l place e) && is_among old k l place))
      → AddsAll heading trust h lasts new → Goes heading trust h e old new
  goes_at_barrier (Dsb pe dsb) h old lasts new is lasting added = λ k l place.
      added k l place ∙ ap (λ (b : Bool). b || is_empty heading trust new k l place h) (lasting k l place)
  goes_at_barrier (Init pe page) h old lasts new is lasting added = absurd (true≢false (sym is))
  goes_at_barrier (Null pe page) h old lasts new is lasting added = absurd (true≢false (sym is))
  goes_at_barrier (Root pe kind lock page) h old lasts new is lasting added = absurd (true≢false (sym is))
  goes_at_barrier (Unroot pe page) h old lasts new is lasting added = absurd (true≢false (sym is))
  goes_at_barrier (Write pe at value) h old lasts new is lasting added = absurd (true≢false (sym is))
  goes_at_barrier (Dmb pe dsb) h old lasts new is lasting added = absurd (true≢false (sym is))
  goes_at_barrier (Isb pe) h old lasts new is lasting added = absurd (true≢false (sym is))
  goes_at_barrier (Tlbi pe op xt) h old lasts new is lasting added = absurd (true≢false (sym is))
  goes_at_barrier (Msr pe reg value) h old lasts new is lasting added = absurd (true≢false (sym is))
  goes_at_barrier (Lock pe lock) h old lasts new is lasting added = absurd (true≢false (sym is))
  goes_at_barrier (Unlock pe lock) h old lasts new is lasting added = absurd (true≢false (sym is))

  pub goes_elsewhere : (e : Event) (h : List Noted) (old new : List TreePlace) → is_barrier e ≡ false
      → ((k : Kind) (l place : ℕ) → is_among new k l place ≡ (not (ends_last k l place e) && is_among old k l place))
      → Goes heading trust h e old new
  goes_elsewhere (Dsb pe dsb) h old new is lasting = absurd (true≢false is)
  goes_elsewhere (Init pe page) h old new is lasting = lasting
  goes_elsewhere (Write pe at value) h old new is lasting = lasting
  goes_elsewhere e h old new is lasting = lasting

  module _ (n : Noted) (h : List Noted) (old new : List TreePlace) (late : empties_tables heading.version ≡ true)
      (before : AreEmptied heading trust h old) (goes : Goes heading trust (n ∷ h) n.event old new) where
    abbrev Right : ℕ → Type 0
    Right level = (k : Kind) (place : ℕ) → is_among new k level place ≡ emptied_in heading trust 3 k level place (n ∷ h)

    whole : (k : Kind) (level place : ℕ) (g : List Noted)
        → emptied heading trust k level place g ≡ emptied_in heading trust 3 k level place g
    whole k level place g = ap (λ (b : Bool). b && emptied_in heading trust 3 k level place g) late

    never_both : (e : Event) (k : Kind) (level place : ℕ) → emptied_after heading trust k level place e false false ≡ false
    never_both (Write pe at value) k level place = and-false (not (at == place && is_valid k level value))
    never_both (Init pe page) k level place = and-false (not (page == page_of place))
    never_both (Dsb pe dsb) k level place = refl
    never_both e k level place = refl

    deep : (level : ℕ) → 3 ≤ level → Right level
    deep level under k place =
        let none : (g : List Noted) → emptied_in heading trust 3 k level place g ≡ false =
        λ g. same_levels heading trust 3 0 level (omega arith) (omega (arith, under)) k place g in
        goes k level place
        ∙ ap (λ (b : Bool). emptied_after heading trust k level place n.event b (is_among old k level place))
        (empty_deep (holds_by heading trust new k (suc level)) k level place (n ∷ h) under)
        ∙ ap (λ (b : Bool). emptied_after heading trust k level place n.event false b)
        (before.are k level place ∙ whole k level place h ∙ none h)
        ∙ never_both n.event k level place
        ∙ sym (none (n ∷ h))

    step : (level : ℕ) → Right (suc level) → Right level
    step level deeper k place =
        goes k level place
        ∙ ap (λ (b : Bool). emptied_after heading trust k level place n.event b (is_among old k level place))
        (empty_alike k level place (n ∷ h) (holds_by heading trust new k (suc level))
        (λ below older. is_some (held_unless heading trust (emptied_in heading trust 2 k (suc level) below older)
        k (suc level) below older))
        (λ q. ap (λ (b : Bool). is_some (held_unless heading trust b k (suc level) q (n ∷ h)))
        (deeper k q ∙ same_levels heading trust 3 2 (suc level) (omega arith) (omega arith) k q (n ∷ h))))
        ∙ ap (λ (b : Bool). emptied_after heading trust k level place n.event (is_empty_above heading trust
        (λ below older. is_some (held_unless heading trust (emptied_in heading trust 2 k (suc level) below older)
        k (suc level) below older)) k level place (n ∷ h)) b)
        (before.are k level place ∙ whole k level place h)

    right : (level : ℕ) → Right level
    right zero = step 0 (step 1 (step 2 (deep 3 (omega arith))))
    right (suc zero) = step 1 (step 2 (deep 3 (omega arith)))
    right (suc (suc zero)) = step 2 (deep 3 (omega arith))
    right (suc (suc (suc level))) = deep (suc (suc (suc level))) (omega arith)

    emptied_more : AreEmptied heading trust (n ∷ h) new
    emptied_more = record { are = λ k level place. right level k place ∙ sym (whole k level place (n ∷ h)) }

-- a version that empties no tables
pub none_emptied : (heading : Heading) (trust : Trust) (h : List Noted) (seats : List TreePlace) → seats ≡ []
    → empties_tables heading.version ≡ false → AreEmptied heading trust h seats
none_emptied heading trust h seats nothing early = record {
  are = λ k level place.
      ap (λ (xs : List TreePlace). is_among xs k level place) nothing
      ∙ sym (ap (λ (b : Bool). b && emptied_in heading trust 3 k level place h) early);
}

-- no event
pub emptied_first : (heading : Heading) (trust : Trust) (seats : List TreePlace) → seats ≡ []
    → AreEmptied heading trust [] seats
emptied_first heading trust seats nothing = record {
  are = λ k level place.
      ap (λ (xs : List TreePlace). is_among xs k level place) nothing
      ∙ sym (and-false (empties_tables heading.version));
}

pub emptied_next : (past : Past) (e : Event) (old new : List TreePlace) → empties_tables past.heading.version ≡ true
    → WereEmptied past e old → Goes past.heading past.trust (notes past) e old new
    → AreEmptied past.heading past.trust (notes past) new
emptied_next past e old new late were =
    let n : Noted = note_of (length were.older) were.newest in
    subst (λ (h : List Noted). Goes past.heading past.trust h e old new → AreEmptied past.heading past.trust h new)
    (sym (ap notes_of were.split))
    (subst (λ (x : Event). Goes past.heading past.trust (n ∷ notes_of were.older) x old new
    → AreEmptied past.heading past.trust (n ∷ notes_of were.older) new) were.is
    (emptied_more past.heading past.trust n (notes_of were.older) old new late were.before))
