-- Emptied is what the sentence says.
use Rattle.bbm_rules.proofs.Common.{◌≡◌, ℕ, zero, suc, ◌+◌, ◌<◌, ◌≤◌, ◌⊎◌, ◌&&◌, ◌||◌, not, Bool, true, false, ◌==◌, List}
use Rattle.bbm_rules.proofs.Common.{[], ◌∷◌, ◌++◌, map, Option, Some, None, is_some, refl, sym, ◌∙◌, ap, subst, inl, inr}
use Rattle.bbm_rules.proofs.Common.{true≢false, and_parts, and_from, or_right, eq-eqb, eqb-true, not-true, not_from_false}
use Rattle.bbm_rules.proofs.Common.{arith, fun_ext, Kind, is_valid, Trust, Barrier, Dsb, In, from_filter, to_filter}
use Rattle.bbm_rules.proofs.Common.{none_of, is_none_of, ValidWrite, held, last_valid, Noted, events_of, page_of}
use Rattle.bbm_rules.proofs.Common.{option_map_or, next_of, any, places_in, written_places}
use Rattle.bbm_events.specs.Heading.{Heading}
use Rattle.bbm_events.specs.declared.event.Event.{Event}
use Rattle.bbm_events.specs.declared.event.Event.TheVariants.{Init, Write}
use Rattle.bbm_lemmas.proofs.Every.{every_at, every_from}
use Rattle.bbm_rules.proofs.Emptied.{IsBarrier, emptied_then, ends_last, holds_below, still_emptied}
use Rattle.bbm_rules.proofs.HeldLemmas.{held_is_written}
use Rattle.bbm_rules.proofs.PatternLaw.{cleansed_complete, cleansed_sound}
use Rattle.bbm_rules.proofs.TreeLaw.{table_level}
use Rattle.bbm_rules.specs.Cleansing.{above}
use Rattle.bbm_rules.specs.Held.{above_everywhere, emptied, emptied_after, emptied_by, emptied_in, empties_tables, held_unless}
use Rattle.bbm_rules.specs.Held.{is_empty_above}
use Rattle.bbm_rules.specs.Notes.{topped}
use Rattle.bbm_rules.specs.PatternSentences.{IsAbove, Emptied, EmptyAbove}

module _ (heading : Heading) (trust : Trust) where
  -- ---- the number of levels doesn't matter where it reaches level 3

  -- what is_empty_above asks of a valid write, and of the page below it
  abbrev at_next : (ℕ → List Noted → Bool) → ℕ → List Noted → ValidWrite → Option ℕ → Bool
  at_next holds place h w o = option_map_or (λ next. above_everywhere heading trust place w.since
      && not (any (λ below. holds below h) (places_in (events_of h) next))) o false

  abbrev at_write : (ℕ → List Noted → Bool) → Kind → ℕ → ℕ → List Noted → Option ValidWrite → Bool
  at_write holds kind level place h o = option_map_or (λ w. at_next holds place h w (next_of kind level w.value)) o false

  no_tables : (holds : ℕ → List Noted → Bool) (kind : Kind) (level place : ℕ) → 3 ≤ level → (h : List Noted)
      → emptied_by heading trust holds kind level place h ≡ false
  no_tables holds kind level place deep [] = refl
  no_tables holds kind level place deep (n ∷ h) =
      by (emptied_by heading trust holds kind level place (n ∷ h)) refl (no_tables holds kind level place deep h)
    where
      none_at : (w : ValidWrite) (o : Option ℕ) → next_of kind level w.value ≡ o → at_next holds place (n ∷ h) w o ≡ false
      none_at w None e = refl
      none_at w (Some next) e = let up : level < 3 = table_level kind level w.value next e in absurd (omega (arith, up, deep))

      none_now : (o : Option ValidWrite) → at_write holds kind level place (n ∷ h) o ≡ false
      none_now None = refl
      none_now (Some w) = none_at w (next_of kind level w.value) refl

      by : (b : Bool) → emptied_by heading trust holds kind level place (n ∷ h) ≡ b
          → emptied_by heading trust holds kind level place h ≡ false → b ≡ false
      by false t older = refl
      by true t older =
          let s = emptied_then heading trust kind level place n.event (is_empty_above heading trust holds kind level place (n ∷ h))
          (emptied_by heading trust holds kind level place h) t in
          elim s.1 [
            | inl before ↦ absurd (true≢false (sym before ∙ older))
            | inr now ↦ absurd (true≢false (sym now.1 ∙ none_now (last_valid kind level place (n ∷ h))))
          ]

  -- whether a place one level deeper holds something, by so many levels
  abbrev holds_in : ℕ → Kind → ℕ → ℕ → List Noted → Bool
  holds_in levels kind level below older =
      is_some (held_unless heading trust (emptied_in heading trust levels kind (suc level) below older) kind (suc level) below older)

  pub same_levels : (a b level : ℕ) → 3 ≤ a + level → 3 ≤ b + level → (kind : Kind) (place : ℕ) (h : List Noted)
      → emptied_in heading trust a kind level place h ≡ emptied_in heading trust b kind level place h
  same_levels zero zero level up over kind place h = refl
  same_levels zero (suc b) level up over kind place h = sym (no_tables (holds_in b kind level) kind level place (omega (arith, up)) h)
  same_levels (suc a) zero level up over kind place h = no_tables (holds_in a kind level) kind level place (omega (arith, over)) h
  same_levels (suc a) (suc b) level up over kind place h =
      ap (λ (holds : ℕ → List Noted → Bool). emptied_by heading trust holds kind level place h)
      (fun_ext (λ below. fun_ext (λ older.
      ap (λ (gone : Bool). is_some (held_unless heading trust gone kind (suc level) below older))
      (same_levels a b (suc level) (omega (arith, up)) (omega (arith, over)) kind below older))))

  -- what a place of the next page holds is what it holds
  pub held_below : empties_tables heading.version ≡ true → (kind : Kind) (level below : ℕ) (h : List Noted)
      → held_unless heading trust (emptied_in heading trust 2 kind (suc level) below h) kind (suc level) below h
      ≡ held heading trust kind (suc level) below h
  held_below late kind level below h =
      ap (λ (gone : Bool). held_unless heading trust gone kind (suc level) below h)
      (same_levels 2 3 (suc level) (omega arith) (omega arith) kind below h
      ∙ sym (ap (λ (b : Bool). b && emptied_in heading trust 3 kind (suc level) below h) late))

  module _ (kind : Kind) (level place : ℕ) where
    -- ---- empty and above

    none_held : empties_tables heading.version ≡ true → (h : List Noted) (next : ℕ)
        → any (λ below. holds_below heading trust kind level place below h) (places_in (events_of h) next) ≡ false
        → (below : ℕ) → page_of below ≡ next → held heading trust kind (suc level) below h ≡ None
    none_held late h next none below inside = by (held heading trust kind (suc level) below h) refl
      where
        by : (o : Option ℕ) → held heading trust kind (suc level) below h ≡ o → o ≡ None
        by None e = refl
        by (Some v) e =
            absurd (true≢false (sym (ap is_some (held_below late kind level below h ∙ e))
            ∙ none_of (λ below. holds_below heading trust kind level place below h) (places_in (events_of h) next) none below
            (to_filter (λ (at : ℕ). page_of at == next) (written_places (events_of h)) below
            (held_is_written heading trust below kind (suc level) h v e) (eq-eqb (page_of below) next inside))))

    empty_sound : empties_tables heading.version ≡ true → (h : List Noted)
        → is_empty_above heading trust (holds_below heading trust kind level place) kind level place h ≡ true
        → EmptyAbove heading trust kind level place h
    empty_sound late h t = by (last_valid kind level place h) refl t
      where
        by_next : (w : ValidWrite) → last_valid kind level place h ≡ Some w → (o : Option ℕ) → next_of kind level w.value ≡ o
            → at_next (holds_below heading trust kind level place) place h w o ≡ true → EmptyAbove heading trust kind level place h
        by_next w last None e t = absurd (true≢false (sym t))
        by_next w last (Some next) e t =
            let parts = and_parts (above_everywhere heading trust place w.since)
            (not (any (λ below. holds_below heading trust kind level place below h) (places_in (events_of h) next))) t in
            record {
              w = w;
              is_last = last;
              next = next;
              table = e;
              above = λ p is_pe. cleansed_sound heading trust place p (map topped w.since)
                  (every_at heading.pes (λ (p : ℕ). above heading trust place p w.since) parts.0 p is_pe);
              holds_none = none_held late h next (not-true _ parts.1);
            }

        by : (o : Option ValidWrite) → last_valid kind level place h ≡ o
            → at_write (holds_below heading trust kind level place) kind level place h o ≡ true
            → EmptyAbove heading trust kind level place h
        by None e t = absurd (true≢false (sym t))
        by (Some w) e t = by_next w e (next_of kind level w.value) refl t

    empty_complete : empties_tables heading.version ≡ true → (h : List Noted) → EmptyAbove heading trust kind level place h
        → is_empty_above heading trust (holds_below heading trust kind level place) kind level place h ≡ true
    empty_complete late h k =
        ap (at_write (holds_below heading trust kind level place) kind level place h) k.is_last
        ∙ (ap (at_next (holds_below heading trust kind level place) place h k.w) k.table
        ∙ and_from (above_everywhere heading trust place k.w.since) _
        (every_from heading.pes (λ (p : ℕ). above heading trust place p k.w.since)
        (λ p is_pe. cleansed_complete heading trust place p (map topped k.w.since) (k.above p is_pe)))
        (not_from_false (any (λ below. holds_below heading trust kind level place below h) (places_in (events_of h) k.next))
        (is_none_of (λ below. holds_below heading trust kind level place below h) (places_in (events_of h) k.next)
        (λ below i. ap is_some (held_below late kind level below h ∙ k.holds_none below
        (eqb-true (page_of below) k.next (from_filter (λ (at : ℕ). page_of at == k.next) (written_places (events_of h)) below i).1))))))

    -- ---- by one event more

    still_last : (e : Event) → ((q v : ℕ) → e ≡ Write q place v → is_valid kind level v ≡ false)
        → ((q : ℕ) → e ≡ Init q (page_of place) → ⊥) → ends_last kind level place e ≡ false
    still_last (Write pe at value) no_write no_init = by (at == place) refl
      where
        by : (b : Bool) → (at == place) ≡ b → (b && is_valid kind level value) ≡ false
        by true same = no_write pe value (ap (λ (x : ℕ). Write pe x value) (eqb-true at place same))
        by false other = refl
    still_last (Init pe page) no_write no_init = by (page == page_of place) refl
      where
        by : (b : Bool) → (page == page_of place) ≡ b → b ≡ false
        by true same = absurd (no_init pe (ap (Init pe) (eqb-true page (page_of place) same)))
        by false other = refl
    still_last e no_write no_init = refl

    not_ended : (e : Event) → ends_last kind level place e ≡ false
        → ((q v : ℕ) → e ≡ Write q place v → is_valid kind level v ≡ false) × ((q : ℕ) → e ≡ Init q (page_of place) → ⊥)
    not_ended e k = (
      λ q v is. by v (is_valid kind level v) refl (λ valid. true≢false
          (sym (ap (ends_last kind level place) is ∙ and_from (place == place) (is_valid kind level v) (eq-eqb place place refl) valid) ∙ k)),
      λ q is. true≢false (sym (ap (ends_last kind level place) is ∙ eq-eqb (page_of place) (page_of place) refl) ∙ k),
    )
      where
        by : (v : ℕ) (b : Bool) → is_valid kind level v ≡ b → (is_valid kind level v ≡ true → ⊥) → b ≡ false
        by v true e never = absurd (never e)
        by v false e never = refl

    pub emptied_stays : (n : Noted) (h : List Noted)
        → ((q v : ℕ) → n.event ≡ Write q place v → is_valid kind level v ≡ false)
        → ((q : ℕ) → n.event ≡ Init q (page_of place) → ⊥)
        → emptied heading trust kind level place h ≡ true → emptied heading trust kind level place (n ∷ h) ≡ true
    emptied_stays n h no_write no_init t =
        let parts = and_parts (empties_tables heading.version) (emptied_in heading trust 3 kind level place h) t in
        and_from (empties_tables heading.version) (emptied_in heading trust 3 kind level place (n ∷ h)) parts.0
        (still_emptied heading trust kind level place n.event
        (is_empty_above heading trust (holds_below heading trust kind level place) kind level place (n ∷ h))
        (emptied_by heading trust (holds_below heading trust kind level place) kind level place h)
        (still_last n.event no_write no_init) parts.1)

    record Then (n : Noted) (h : List Noted) : Type 0 where
      version : empties_tables heading.version ≡ true
      goes_on : ends_last kind level place n.event ≡ false
      by : (emptied heading trust kind level place h ≡ true)
          ⊎ (IsBarrier n.event × EmptyAbove heading trust kind level place (n ∷ h))

    then_by : (n : Noted) (h : List Noted) → emptied heading trust kind level place (n ∷ h) ≡ true → Then n h
    then_by n h t =
        let parts = and_parts (empties_tables heading.version) (emptied_in heading trust 3 kind level place (n ∷ h)) t in
        let s = emptied_then heading trust kind level place n.event
        (is_empty_above heading trust (holds_below heading trust kind level place) kind level place (n ∷ h))
        (emptied_by heading trust (holds_below heading trust kind level place) kind level place h) parts.1 in
        record {
          version = parts.0;
          goes_on = s.0;
          by = elim s.1 [
            | inl before ↦ inl (and_from (empties_tables heading.version) (emptied_in heading trust 3 kind level place h) parts.0 before)
            | inr now ↦ inr (now.0, empty_sound parts.0 (n ∷ h) now.1)
          ];
        }

    pub emptied_step : (n : Noted) (h : List Noted) → emptied heading trust kind level place (n ∷ h) ≡ true
        → (emptied heading trust kind level place h ≡ true)
        ⊎ ((q : ℕ) × (dsb : Barrier) × (n.event ≡ Dsb q dsb) × EmptyAbove heading trust kind level place (n ∷ h))
    emptied_step n h t =
        elim (then_by n h t).by [
          | inl before ↦ inl before
          | inr now ↦ inr (now.0.0, now.0.1, now.0.2, now.1)
        ]

    -- ---- the sentence

    pub emptied_sound : (h : List Noted) → emptied heading trust kind level place h ≡ true → Emptied heading trust kind level place h
    emptied_sound [] t =
        absurd (true≢false (sym (and_parts (empties_tables heading.version) (emptied_in heading trust 3 kind level place []) t).1))
    emptied_sound (n ∷ h) t = by (then_by n h t) (emptied_sound h)
      where
        nothing : (m : Noted) (after before : List Noted) → [] ≡ after ++ m ∷ before → ⊥
        nothing m [] before i = cc
        nothing m (x ∷ after) before i = cc

        by : Then n h → (emptied heading trust kind level place h ≡ true → Emptied heading trust kind level place h)
            → Emptied heading trust kind level place (n ∷ h)
        by s before =
            elim s.by [
              | inl old ↦ longer s (before old)
              | inr now ↦ record {
                version = s.version;
                q = now.0.0;
                dsb = now.0.1;
                newer = [];
                barrier = n;
                older = h;
                split = refl;
                is_barrier = now.0.2;
                empty = now.1;
                last = λ r v m after rest i is. absurd (nothing m after rest i);
                no_init = λ r m after rest i is. nothing m after rest i;
              }
            ]
          where
            longer : Then n h → Emptied heading trust kind level place h → Emptied heading trust kind level place (n ∷ h)
            longer s k = record {
              version = k.version;
              q = k.q;
              dsb = k.dsb;
              newer = n ∷ k.newer;
              barrier = k.barrier;
              older = k.older;
              split = ap (λ (xs : List Noted). n ∷ xs) k.split;
              is_barrier = k.is_barrier;
              empty = k.empty;
              last = λ r v m after rest i is. last_at r v m after rest i is;
              no_init = λ r m after rest i is. init_at r m after rest i is;
            }
              where
                last_at : (r v : ℕ) (m : Noted) (after rest : List Noted) → n ∷ k.newer ≡ after ++ m ∷ rest
                    → m.event ≡ Write r place v → is_valid kind level v ≡ false
                last_at r v m [] rest i is =
                    let first : n ≡ m = cc in (not_ended n.event s.goes_on).0 r v (ap (λ (x : Noted). x.event) first ∙ is)
                last_at r v m (x ∷ after) rest i is = let tail : k.newer ≡ after ++ m ∷ rest = cc in k.last r v m after rest tail is

                init_at : (r : ℕ) (m : Noted) (after rest : List Noted) → n ∷ k.newer ≡ after ++ m ∷ rest
                    → m.event ≡ Init r (page_of place) → ⊥
                init_at r m [] rest i is =
                    let first : n ≡ m = cc in (not_ended n.event s.goes_on).1 r (ap (λ (x : Noted). x.event) first ∙ is)
                init_at r m (x ∷ after) rest i is = let tail : k.newer ≡ after ++ m ∷ rest = cc in k.no_init r m after rest tail is

    at_barrier : (n : Noted) (h : List Noted) (q : ℕ) (dsb : Barrier) → n.event ≡ Dsb q dsb → empties_tables heading.version ≡ true
        → EmptyAbove heading trust kind level place (n ∷ h) → emptied heading trust kind level place (n ∷ h) ≡ true
    at_barrier n h q dsb is late k =
        and_from (empties_tables heading.version) (emptied_in heading trust 3 kind level place (n ∷ h)) late
        (subst (λ (e : Event). emptied_after heading trust kind level place e
        (is_empty_above heading trust (holds_below heading trust kind level place) kind level place (n ∷ h))
        (emptied_by heading trust (holds_below heading trust kind level place) kind level place h) ≡ true) (sym is)
        (or_right (emptied_by heading trust (holds_below heading trust kind level place) kind level place h)
        (is_empty_above heading trust (holds_below heading trust kind level place) kind level place (n ∷ h))
        (empty_complete late (n ∷ h) k)))

    over_newer : (newer rest : List Noted)
        → ((r v : ℕ) (n : Noted) (after before : List Noted) → newer ≡ after ++ n ∷ before
        → n.event ≡ Write r place v → is_valid kind level v ≡ false)
        → ((r : ℕ) (n : Noted) (after before : List Noted) → newer ≡ after ++ n ∷ before
        → n.event ≡ Init r (page_of place) → ⊥)
        → emptied heading trust kind level place rest ≡ true → emptied heading trust kind level place (newer ++ rest) ≡ true
    over_newer [] rest last no_init t = t
    over_newer (n ∷ newer) rest last no_init t =
        emptied_stays n (newer ++ rest) (λ q v is. last q v n [] newer refl is) (λ q is. no_init q n [] newer refl is)
        (over_newer newer rest
        (λ r v m after before i is. last r v m (n ∷ after) before (ap (λ (xs : List Noted). n ∷ xs) i) is)
        (λ r m after before i is. no_init r m (n ∷ after) before (ap (λ (xs : List Noted). n ∷ xs) i) is) t)

    pub emptied_complete : (h : List Noted) → Emptied heading trust kind level place h → emptied heading trust kind level place h ≡ true
    emptied_complete h k =
        subst (λ (xs : List Noted). emptied heading trust kind level place xs ≡ true) (sym k.split)
        (over_newer k.newer (k.barrier ∷ k.older) k.last k.no_init
        (at_barrier k.barrier k.older k.q k.dsb k.is_barrier k.version k.empty))
