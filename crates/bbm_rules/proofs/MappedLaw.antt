-- Mapped and clean pages, and what the rule on table pages says of them.
use Rattle.bbm_rules.proofs.Common.{◌≡◌, ℕ, true, false, not, Bool, cond, ◌||◌, ◌==◌, List, [], ◌∷◌, ◌++◌, Option}
use Rattle.bbm_rules.proofs.Common.{Some, None, Contains, filter, refl, sym, ◌∙◌, ap, subst, inl, inr, true≢false}
use Rattle.bbm_rules.proofs.Common.{and_from, and_parts, or_cases, or_left, or_right, eq-eqb, eqb-true, not-true}
use Rattle.bbm_rules.proofs.Common.{not_from_false, option_map_or, In, from_contains, to_contains, from_filter, to_filter}
use Rattle.bbm_rules.proofs.Common.{in_append, any_finds, any_found, any, least, Trust, Event, Heading}
use Rattle.bbm_rules.proofs.Common.{Init, Root, Write, contains_none, Noted, events_of, Node, IsNode, held_at, page_of, places_in, written_places}
use Rattle.bbm_rules.specs.Tree.{tree}
use Rattle.bbm_rules.specs.TreeSentences.{Clean, Mapped}
use Rattle.bbm_rules.specs.BrokenLaws.{KeepsTables}
use Rattle.bbm_rules.specs.Mapped.{initialises, is_clean, is_mapped, maps, place_maps, table_pages}
use Rattle.bbm_rules.specs.Rules.{bad_tables, made_tables, mapped_table, puts_over, table_mapped}
use Rattle.bbm_rules.proofs.HeldLemmas.{held_is_written}
use Rattle.bbm_rules.proofs.ListLemmas.{append_none, least_none}
use Rattle.bbm_lemmas.proofs.Elements.{none_in}
use Rattle.bbm_rules.proofs.TreeLaw.{tree_complete, tree_sound}

-- an event that initialises the page
pub is_init : (page : ℕ) (e : Event) → initialises page e ≡ true → (q : ℕ) × (e ≡ Init q page)
is_init page (Init pe at) k = (pe, ap (Init pe) (eqb-true at page k))
is_init page e k = absurd (true≢false (sym k))

module _ (heading : Heading) (trust : Trust) where
  -- ---- mapped

  pub mapped_sound : (h : List Noted) (page : ℕ) → is_mapped heading trust h page ≡ true → Mapped heading trust h page
  mapped_sound h page k =
      let n = any_found (λ (m : Node). any (place_maps heading trust h m page) (places_in (events_of h) m.page)) (tree heading trust h) k in
      let p = any_found (place_maps heading trust h n.0 page) (places_in (events_of h) n.0.page) n.2 in
      let inside = from_filter (λ (x : ℕ). page_of x == n.0.page) (written_places (events_of h)) p.0 p.1 in
      by n.0 (tree_sound heading trust h n.0 (to_contains (tree heading trust h) n.0 n.1)) p.0
      (eqb-true (page_of p.0) n.0.page inside.1) (held_at heading trust h n.0 p.0) refl p.2
    where
      by : (m : Node) → IsNode heading trust h m → (place : ℕ) → page_of place ≡ m.page → (o : Option ℕ)
          → held_at heading trust h m place ≡ o → option_map_or (λ (x : ℕ). maps m.kind m.level x page) o false ≡ true
          → Mapped heading trust h page
      by m node place inside None holds k = absurd (true≢false (sym k))
      by m node place inside (Some value) holds k = record {
        node = m;
        is_node = node;
        place = place;
        inside = inside;
        value = value;
        holds = holds;
        maps_page = k;
      }

  pub mapped_complete : (h : List Noted) (page : ℕ) → Mapped heading trust h page → is_mapped heading trust h page ≡ true
  mapped_complete h page m =
      any_finds (λ (x : Node). any (place_maps heading trust h x page) (places_in (events_of h) x.page)) (tree heading trust h) m.node
      (from_contains (tree heading trust h) m.node (tree_complete heading trust h m.node m.is_node))
      (any_finds (place_maps heading trust h m.node page) (places_in (events_of h) m.node.page) m.place
      (to_filter (λ (x : ℕ). page_of x == m.node.page) (written_places (events_of h)) m.place
      (held_is_written heading trust m.place m.node.kind m.node.level h m.value m.holds)
      (eq-eqb (page_of m.place) m.node.page m.inside))
      (ap (λ (o : Option ℕ). option_map_or (λ (x : ℕ). maps m.node.kind m.node.level x page) o false) m.holds ∙ m.maps_page))

  -- ---- clean

  clean_now : (n : Noted) (h : List Noted) (page pe : ℕ) → n.event ≡ Init pe page → is_mapped heading trust (n ∷ h) page ≡ false
      → Clean heading trust (n ∷ h) page
  clean_now n h page pe made none = record {
    pe = pe;
    init = n;
    newer = [];
    older = h;
    split = refl;
    made = made;
    unmapped = λ after moment i. at after moment i;
  }
    where
      at : (after moment : List Noted) → [] ≡ after ++ moment → is_mapped heading trust (moment ++ n ∷ h) page ≡ false
      at [] moment i = subst (λ (xs : List Noted). is_mapped heading trust (xs ++ n ∷ h) page ≡ false) i none
      at (x ∷ after) moment i = cc

  still_clean : (n : Noted) (h : List Noted) (page : ℕ) → is_mapped heading trust (n ∷ h) page ≡ false → Clean heading trust h page
      → Clean heading trust (n ∷ h) page
  still_clean n h page none k = record {
    pe = k.pe;
    init = k.init;
    newer = n ∷ k.newer;
    older = k.older;
    split = ap (λ (xs : List Noted). n ∷ xs) k.split;
    made = k.made;
    unmapped = λ after moment i. at after moment i;
  }
    where
      at : (after moment : List Noted) → n ∷ k.newer ≡ after ++ moment
          → is_mapped heading trust (moment ++ k.init ∷ k.older) page ≡ false
      at [] moment i =
          subst (λ (xs : List Noted). is_mapped heading trust (xs ++ k.init ∷ k.older) page ≡ false) i
          (subst (λ (xs : List Noted). is_mapped heading trust (n ∷ xs) page ≡ false) k.split none)
      at (x ∷ after) moment i = let rest : k.newer ≡ after ++ moment = cc in k.unmapped after moment rest

  -- what the head of a history has to do with it
  pub clean_parts : (n : Noted) (h : List Noted) (page : ℕ) → is_clean heading trust (n ∷ h) page ≡ true
      → ((initialises page n.event || is_clean heading trust h page) ≡ true) × (is_mapped heading trust (n ∷ h) page ≡ false)
  clean_parts n h page k =
      let parts = and_parts (initialises page n.event || is_clean heading trust h page) (not (is_mapped heading trust (n ∷ h) page)) k in
      (parts.0, not-true (is_mapped heading trust (n ∷ h) page) parts.1)

  pub clean_unmapped : (h : List Noted) (page : ℕ) → is_clean heading trust h page ≡ true → is_mapped heading trust h page ≡ false
  clean_unmapped [] page k = absurd (true≢false (sym k))
  clean_unmapped (n ∷ h) page k = (clean_parts n h page k).1

  pub clean_sound : (h : List Noted) (page : ℕ) → is_clean heading trust h page ≡ true → Clean heading trust h page
  clean_sound [] page k = absurd (true≢false (sym k))
  clean_sound (n ∷ h) page k =
      let parts = clean_parts n h page k in
      elim (or_cases (initialises page n.event) (is_clean heading trust h page) parts.0) [
        | inl made ↦ let i = is_init page n.event made in clean_now n h page i.0 i.1 parts.1
        | inr old ↦ still_clean n h page parts.1 (clean_sound h page old)
      ]

  clean_from : (newer older : List Noted) (init : Noted) (page pe : ℕ) → init.event ≡ Init pe page
      → ((after moment : List Noted) → newer ≡ after ++ moment → is_mapped heading trust (moment ++ init ∷ older) page ≡ false)
      → is_clean heading trust (newer ++ init ∷ older) page ≡ true
  clean_from [] older init page pe made none =
      and_from (initialises page init.event || is_clean heading trust older page) (not (is_mapped heading trust (init ∷ older) page))
      (or_left (initialises page init.event) (is_clean heading trust older page)
      (ap (initialises page) made ∙ eq-eqb page page refl))
      (not_from_false (is_mapped heading trust (init ∷ older) page) (none [] [] refl))
  clean_from (n ∷ newer) older init page pe made none =
      and_from (initialises page n.event || is_clean heading trust (newer ++ init ∷ older) page)
      (not (is_mapped heading trust (n ∷ newer ++ init ∷ older) page))
      (or_right (initialises page n.event) (is_clean heading trust (newer ++ init ∷ older) page)
      (clean_from newer older init page pe made (λ after moment i. none (n ∷ after) moment (ap (λ (xs : List Noted). n ∷ xs) i))))
      (not_from_false (is_mapped heading trust (n ∷ newer ++ init ∷ older) page) (none [] (n ∷ newer) refl))

  pub clean_complete : (h : List Noted) (page : ℕ) → Clean heading trust h page → is_clean heading trust h page ≡ true
  clean_complete h page k =
      ap (λ (xs : List Noted). is_clean heading trust xs page) k.split
      ∙ clean_from k.newer k.older k.init page k.pe k.made k.unmapped

  -- ---- the rule

  module _ (h : List Noted) (e : Event) where
    -- the table pages, and those that the event makes so
    abbrev tabled : List ℕ
    tabled = table_pages heading trust h ++ made_tables heading trust h e

    -- of them those over which it puts a leaf, and those that it makes so and that aren't clean
    abbrev over : List ℕ
    over = filter (puts_over heading trust h e) tabled

    abbrev unclean : List ℕ
    unclean = filter (λ (page : ℕ). not (is_clean heading trust h page)) (made_tables heading trust h e)

    kept_by : heading.words.isolated ≡ true → mapped_table heading trust h e ≡ None → KeepsTables heading trust h e
    kept_by on none = record {
      unmapped = λ page c. unmapped page c (puts_over heading trust h e page) refl;
      clean = λ page c. clean page c (is_clean heading trust h page) refl;
    }
      where
        none_bad : bad_tables heading trust h e ≡ []
        none_bad = least_none (bad_tables heading trust h e)
            (subst (λ (c : Bool). cond c (least (bad_tables heading trust h e)) None ≡ None) on none)

        unmapped : (page : ℕ) → Contains tabled page → (c : Bool) → puts_over heading trust h e page ≡ c → c ≡ false
        unmapped page i false k = refl
        unmapped page i true k =
            absurd (none_in over page (append_none over unclean none_bad).0
            (to_filter (puts_over heading trust h e) tabled page (from_contains tabled page i) k))

        clean : (page : ℕ) → Contains (made_tables heading trust h e) page → (c : Bool) → is_clean heading trust h page ≡ c → c ≡ true
        clean page i true k = refl
        clean page i false k =
            absurd (none_in unclean page (append_none over unclean none_bad).1
            (to_filter (λ (p : ℕ). not (is_clean heading trust h p)) (made_tables heading trust h e) page
            (from_contains (made_tables heading trust h e) page i) (not_from_false (is_clean heading trust h page) k)))

    none_by : KeepsTables heading trust h e → mapped_table heading trust h e ≡ None
    none_by k = by heading.words.isolated (bad_tables heading trust h e) refl
      where
        none : (page : ℕ) → In (bad_tables heading trust h e) page → ⊥
        none page i =
            elim (in_append over unclean page i) [
              | inl put ↦
                  let f = from_filter (puts_over heading trust h e) tabled page put in
                  true≢false (sym f.1 ∙ k.unmapped page (to_contains tabled page f.0))
              | inr made ↦
                  let f = from_filter (λ (p : ℕ). not (is_clean heading trust h p)) (made_tables heading trust h e) page made in
                  true≢false (sym (k.clean page (to_contains (made_tables heading trust h e) page f.0))
                  ∙ not-true (is_clean heading trust h page) f.1)
            ]

        by : (c : Bool) (bad : List ℕ) → bad_tables heading trust h e ≡ bad → cond c (least (bad_tables heading trust h e)) None ≡ None
        by false bad is = refl
        by true [] is = ap least is
        by true (page ∷ bad) is = absurd (none page (subst (λ (xs : List ℕ). In xs page) (sym is) (inl refl)))

  -- an event that is no write and no `root` puts no leaf anywhere and makes no page a table page
  pub tables_kept : (h : List Noted) (e : Event) → heading.words.isolated ≡ true → table_mapped heading trust h e ≡ None
      → KeepsTables heading trust h e
  tables_kept h (Write pe place value) on none = kept_by h (Write pe place value) on none
  tables_kept h (Root pe kind lock page) on none = kept_by h (Root pe kind lock page) on none
  tables_kept h e on none = record { unmapped = λ page c. refl; clean = λ page c. absurd (contains_none page c) }

  pub none_mapped : (h : List Noted) (e : Event) → KeepsTables heading trust h e → table_mapped heading trust h e ≡ None
  none_mapped h (Write pe place value) k = none_by h (Write pe place value) k
  none_mapped h (Root pe kind lock page) k = none_by h (Root pe kind lock page) k
  none_mapped h e k = refl
