-- What the rules on fresh pages say of an event that attaches pages, by paths.
use Rattle.bbm_rules.proofs.Common.{◌≡◌, ℕ, zero, suc, ◌+◌, ◌-◌, ◌<◌, ◌≤◌, Bool, true, false, not, List, [], ◌∷◌, ◌++◌}
use Rattle.bbm_rules.proofs.Common.{length, Option, Some, None, Contains, flat_map, filter_map, map, option_and_then}
use Rattle.bbm_rules.proofs.Common.{option_to_list, true≢false, ◌&&◌, ◌==◌, refl, sym, ◌∙◌, ap, subst, inl, inr, arith}
use Rattle.bbm_rules.proofs.Common.{and_from, eq-eqb, not_from_false, Kind, desc_of, Desc, In, from_contains, from_map}
use Rattle.bbm_rules.proofs.Common.{in_append, in_left, in_right, to_contains, zero-le, to_filter, to_flat, Attached, End, all_ends, attached_by, attached_from}
use Rattle.bbm_rules.proofs.Common.{end_at, ends_below, pages_of, Trust, if_so, repeated, is_global, page_of, Noted}
use Rattle.bbm_rules.proofs.Common.{events_of, is_fresh, root_pages, same_kind, attached_with, bad_ends, global_user}
use Rattle.bbm_rules.proofs.Common.{judged_ends, not_fresh, page_in_use, places_with, unfresh, untracked_page}
use Rattle.bbm_rules.proofs.Common.{written_with, Node, next_of, node_of, places_in, value_of, written_places}
use Rattle.bbm_regimes.specs.declared.regime.Kind.TheVariants.{Ttbr0}
use Rattle.bbm_events.specs.Heading.{Heading}
use Rattle.bbm_events.specs.declared.event.Event.{Event}
use Rattle.bbm_events.specs.declared.event.Event.TheVariants.{Root, Write}
use Rattle.bbm_lemmas.proofs.Words.{Apart, apart}
use Rattle.bbm_lemmas.proofs.Elements.{from_flat, none_in}
use Rattle.bbm_rules.proofs.ListLemmas.{Parted, append_none, in_pages, least_none, parted, place_apart, same_place}
use Rattle.bbm_rules.proofs.TreeLaw.{below_fresh, ends_from, one_more, path_from, path_to_end, place_of_table, written_by}
use Rattle.bbm_rules.specs.TreeSentences.{Leads}

all_some : (ns : List ℕ) → filter_map (λ (n : ℕ). Some n) ns ≡ ns
all_some [] = refl
all_some (n ∷ ns) = ap (λ ms. n ∷ ms) (all_some ns)

module _ (heading : Heading) (trust : Trust) (h : List Noted) where
  fresh_by : (pages : List ℕ) (page : ℕ) (b : Bool) → is_fresh heading trust h page ≡ b → unfresh heading trust h pages ≡ []
      → In pages page → b ≡ true
  fresh_by pages page true e none i = refl
  fresh_by pages page false e none i =
      absurd (none_in (unfresh heading trust h pages) page none
      (to_filter (λ p. not (is_fresh heading trust h p)) pages page i (not_from_false (is_fresh heading trust h page) e)))

  all_fresh : (pages : List ℕ) (page : ℕ) → unfresh heading trust h pages ≡ [] → In pages page
      → is_fresh heading trust h page ≡ true
  all_fresh pages page none i = fresh_by pages page (is_fresh heading trust h page) refl none i

  -- what the rules on fresh pages say of an event that attaches
  record Judged (e : Event) (a : Attached) : Type 0 where
    judged : unfresh heading trust h (pages_of (judged_ends e a)) ≡ []
    single : repeated (pages_of (all_ends a)) ≡ []

  attaches : (e : Event) (a : Attached) → attached_by heading trust h e ≡ Some a → not_fresh heading trust h e ≡ None
      → Judged e a
  attaches e a is none =
      let both = append_none (flat_map (bad_ends heading trust h e) (option_to_list (attached_by heading trust h e))) (untracked_page heading trust h e)
      (least_none (flat_map (bad_ends heading trust h e) (option_to_list (attached_by heading trust h e)) ++ untracked_page heading trust h e) none) in
      let ends : bad_ends heading trust h e a ≡ []
      = (append_none (bad_ends heading trust h e a) []
      (subst (λ (o : Option Attached). flat_map (bad_ends heading trust h e) (option_to_list o) ≡ []) is both.0)).0 in
      let parts = append_none (unfresh heading trust h (pages_of (judged_ends e a))) (repeated (pages_of (all_ends a))) ends in
      record { judged = parts.0; single = parts.1 }

  -- ---- two paths that end in one page are the same

  -- the next page of a place
  abbrev next_at : Kind → ℕ → ℕ → Option ℕ
  next_at kind level place = next_of kind level (value_of (events_of h) place)

  -- paths from one page at the level lead to one page only if they are the same
  abbrev Single : Kind → ℕ → ℕ → ℕ → Type 0
  Single kind left level page = (places places' : List ℕ) (e e' : End) → Apart (pages_of (ends_from heading trust h kind left level page))
      → length places ≤ left → length places' ≤ left → Leads heading trust h kind level page places e
      → Leads heading trust h kind level page places' e' → e.page ≡ e'.page → places ≡ places'

  -- the same of paths of one place at least
  abbrev SingleBelow : Kind → ℕ → ℕ → ℕ → Type 0
  SingleBelow kind left level page = (p q : ℕ) (ps qs : List ℕ) (e e' : End) → Apart (pages_of (ends_below heading trust h kind left level page))
      → length (p ∷ ps) ≤ left → length (q ∷ qs) ≤ left → Leads heading trust h kind level page (p ∷ ps) e
      → Leads heading trust h kind level page (q ∷ qs) e' → e.page ≡ e'.page → p ∷ ps ≡ q ∷ qs

  single_step : (kind : Kind) (left level page : ℕ) → ((next : ℕ) → Single kind left (suc level) next)
      → SingleBelow kind (suc left) level page
  single_step kind left level page further p q ps qs e e' apart short short' l l' same =
      let parts : Apart (pages_of (flat_map (ends_from heading trust h kind left (suc level))
      (filter_map (next_at kind level) (places_in (events_of h) page))))
      = subst (λ (es : List End). Apart (pages_of es)) (below_fresh heading trust h kind left level page l.0) apart in
      let i = path_to_end heading trust h left kind (suc level) l.2 ps e (omega arith) l.4 in
      let i' = path_to_end heading trust h left kind (suc level) l'.2 qs e' (omega arith) l'.4 in
      let at = place_of_table heading trust h kind level page p l.2 l.1 l.3 in
      let at' = place_of_table heading trust h kind level page q l'.2 l'.1 l'.3 in
      let one : p ≡ q = same_place (next_at kind level) (ends_from heading trust h kind left (suc level))
      (places_in (events_of h) page) p q l.2 l'.2 e e' parts at at' l.3 l'.3 i i' same in
      let both : Some l'.2 ≡ Some l.2 = sym l'.3 ∙ (ap (next_at kind level) (sym one) ∙ l.3) in
      let next : l'.2 ≡ l.2 = cc in
      let rest : ps ≡ qs = further l.2 ps qs e e'
      (place_apart (next_at kind level) (ends_from heading trust h kind left (suc level)) (places_in (events_of h) page) p l.2
      parts at l.3) (omega arith) (omega arith) l.4
      (subst (λ (x : ℕ). Leads heading trust h kind (suc level) x qs e') next l'.4) same in
      ap (λ (x : ℕ). x ∷ ps) one ∙ ap (λ (xs : List ℕ). q ∷ xs) rest

  -- the end of a longer path isn't in the page where it begins
  not_back : (kind : Kind) (left level page p : ℕ) (ps : List ℕ) (e e' : End)
      → Apart (pages_of (ends_from heading trust h kind (suc left) level page)) → end_at level page ≡ e
      → length (p ∷ ps) ≤ suc left → Leads heading trust h kind level page (p ∷ ps) e' → e.page ≡ e'.page → ⊥
  not_back kind left level page p ps e e' apart start short l same =
      let i = one_more heading trust h left kind level page p ps e' l
      (path_to_end heading trust h left kind (suc level) l.2 ps e' (omega arith) l.4) in
      let begin : page ≡ e.page = ap (λ (x : End). x.page) start in
      apart.0 (subst (λ (x : ℕ). In (pages_of (ends_below heading trust h kind (suc left) level page)) x)
      (sym same ∙ sym begin) (in_pages (ends_below heading trust h kind (suc left) level page) e' i))

  single : (left : ℕ) (kind : Kind) (level page : ℕ) → Single kind left level page
  single left kind level page [] [] e e' apart short short' l l' same = refl
  single zero kind level page [] (q ∷ qs) e e' apart short short' l l' same = absurd (omega arith)
  single zero kind level page (p ∷ ps) qs e e' apart short short' l l' same = absurd (omega arith)
  single (suc left) kind level page [] (q ∷ qs) e e' apart short short' l l' same =
      absurd (not_back kind left level page q qs e e' apart l short' l' same)
  single (suc left) kind level page (p ∷ ps) [] e e' apart short short' l l' same =
      absurd (not_back kind left level page p ps e' e apart l' short l (sym same))
  single (suc left) kind level page (p ∷ ps) (q ∷ qs) e e' apart short short' l l' same =
      single_step kind left level page (λ next. single left kind (suc level) next) p q ps qs e e' apart.1 short short' l l' same

  single_below : (left : ℕ) (kind : Kind) (level page : ℕ) → SingleBelow kind left level page
  single_below zero kind level page p q ps qs e e' apart short short' l l' same = absurd (omega arith)
  single_below (suc left) kind level page p q ps qs e e' apart short short' l l' same =
      single_step kind left level page (λ next. single left kind (suc level) next) p q ps qs e e' apart short short' l l' same

  below_end : (left : ℕ) (kind : Kind) (level page place : ℕ) (places : List ℕ) (e : End) → length (place ∷ places) ≤ left
      → Leads heading trust h kind level page (place ∷ places) e → In (ends_below heading trust h kind left level page) e
  below_end zero kind level page place places e short l = absurd (omega arith)
  below_end (suc left) kind level page place places e short l =
      one_more heading trust h left kind level page place places e l
      (path_to_end heading trust h left kind (suc level) l.2 places e (omega arith) l.4)

  -- ---- the attached pages

  -- the ends of the paths of no places, and of the longer ones
  abbrev firsts : ℕ → List ℕ → List End
  firsts level pages = map (end_at level) pages

  abbrev deepers : Kind → ℕ → List ℕ → List End
  deepers kind level pages = flat_map (ends_below heading trust h kind (3 - level) level) pages

  in_firsts : (level : ℕ) (pages : List ℕ) (page : ℕ) → In pages page → In (firsts level pages) (end_at level page)
  in_firsts level [] page i = absurd i
  in_firsts level (p ∷ pages) page (inl same) = inl (ap (end_at level) same)
  in_firsts level (p ∷ pages) page (inr i) = inr (in_firsts level pages page i)

  in_deepers : (kind : Kind) (level : ℕ) (pages : List ℕ) (page place : ℕ) (places : List ℕ) (e : End) → In pages page
      → length (place ∷ places) ≤ 3 - level → Leads heading trust h kind level page (place ∷ places) e
      → In (deepers kind level pages) e
  in_deepers kind level pages page place places e i short l =
      to_flat (ends_below heading trust h kind (3 - level) level) pages page e i
      (below_end (3 - level) kind level page place places e short l)

  judged_has : (e : Event) (a : Attached) (x : End) → In a.deeper x → In (judged_ends e a) x
  judged_has (Root pe kind lock page) a x i = i
  judged_has e a x i = in_right a.first a.deeper x i

  pub deeper_fresh : (e : Event) (kind : Kind) (level : ℕ) (pages : List ℕ)
      → attached_by heading trust h e ≡ Some (attached_from heading trust h kind level pages)
      → not_fresh heading trust h e ≡ None → (page place : ℕ) (places : List ℕ) (end : End) → Contains pages page
      → level + length (place ∷ places) < 4 → Leads heading trust h kind level page (place ∷ places) end
      → is_fresh heading trust h end.page ≡ true
  deeper_fresh e kind level pages is none page place places end c short l =
      let a : Attached = attached_from heading trust h kind level pages in
      let k : Judged e a = attaches e a is none in
      all_fresh (pages_of (judged_ends e a)) end.page k.judged (in_pages (judged_ends e a) end (judged_has e a end
      (in_deepers kind level pages page place places end (from_contains pages page c) (omega arith) l)))

  pub written_fresh : (pe place value : ℕ) (kind : Kind) (level : ℕ) (pages : List ℕ)
      → attached_by heading trust h (Write pe place value) ≡ Some (attached_from heading trust h kind level pages)
      → not_fresh heading trust h (Write pe place value) ≡ None → (page : ℕ) → Contains pages page
      → is_fresh heading trust h page ≡ true
  written_fresh pe place value kind level pages is none page c =
      let a : Attached = attached_from heading trust h kind level pages in
      let k : Judged (Write pe place value) a = attaches (Write pe place value) a is none in
      all_fresh (pages_of (all_ends a)) page k.judged (in_pages (all_ends a) (end_at level page)
      (in_left a.first a.deeper (end_at level page) (in_firsts level pages page (from_contains pages page c))))

  pub rooted_fresh : (pe : ℕ) (kind : Kind) (lock : Option ℕ) (first page : ℕ)
      → page_in_use heading trust h (Root pe kind lock first) ≡ None → Contains (root_pages heading.world kind first) page
      → is_fresh heading trust h page ≡ true
  rooted_fresh pe kind lock first page none c =
      all_fresh (root_pages heading.world kind first) page (least_none (unfresh heading trust h (root_pages heading.world kind first)) none)
      (from_contains (root_pages heading.world kind first) page c)

  single_of : (kind : Kind) (level : ℕ) (pages : List ℕ) (page page' : ℕ) (places places' : List ℕ) (e e' : End)
      → Parted (firsts level pages) (deepers kind level pages) → In pages page → In pages page'
      → level + length places < 4 → level + length places' < 4 → Leads heading trust h kind level page places e
      → Leads heading trust h kind level page' places' e' → e.page ≡ e'.page → (page ≡ page') × (places ≡ places')
  single_of kind level pages page page' [] [] e e' k i i' short short' l l' same =
      (ap (λ (x : End). x.page) l ∙ (same ∙ sym (ap (λ (x : End). x.page) l')), refl)
  single_of kind level pages page page' [] (q ∷ qs) e e' k i i' short short' l l' same =
      absurd (k.between (end_at level page) e' (in_firsts level pages page i)
      (in_deepers kind level pages page' q qs e' i' (omega arith) l') (ap (λ (x : End). x.page) l ∙ same))
  single_of kind level pages page page' (p ∷ ps) [] e e' k i i' short short' l l' same =
      absurd (k.between (end_at level page') e (in_firsts level pages page' i')
      (in_deepers kind level pages page p ps e i (omega arith) l) (ap (λ (x : End). x.page) l' ∙ sym same))
  single_of kind level pages page page' (p ∷ ps) (q ∷ qs) e e' k i i' short short' l l' same =
      let below : ℕ → List End = ends_below heading trust h kind (3 - level) level in
      let parts : Apart (pages_of (flat_map below (filter_map (λ (n : ℕ). Some n) pages)))
      = subst (λ (ns : List ℕ). Apart (pages_of (flat_map below ns))) (sym (all_some pages)) k.second in
      let one : page ≡ page' = same_place (λ (n : ℕ). Some n) below pages page page' page page' e e' parts i i' refl refl
      (below_end (3 - level) kind level page p ps e (omega arith) l)
      (below_end (3 - level) kind level page' q qs e' (omega arith) l') same in (
        one,
        single_below (3 - level) kind level page p q ps qs e e'
            (place_apart (λ (n : ℕ). Some n) below pages page page parts i refl) (omega arith) (omega arith) l
            (subst (λ (x : ℕ). Leads heading trust h kind level x (q ∷ qs) e') (sym one) l') same,
      )

  pub single_paths : (e : Event) (kind : Kind) (level : ℕ) (pages : List ℕ)
      → attached_by heading trust h e ≡ Some (attached_from heading trust h kind level pages)
      → not_fresh heading trust h e ≡ None → (page page' : ℕ) (places places' : List ℕ) (end end' : End)
      → Contains pages page → Contains pages page' → level + length places < 4 → level + length places' < 4
      → Leads heading trust h kind level page places end → Leads heading trust h kind level page' places' end'
      → end.page ≡ end'.page → (page ≡ page') × (places ≡ places')
  single_paths e kind level pages is none page page' places places' end end' c c' short short' l l' same =
      let a : Attached = attached_from heading trust h kind level pages in
      let k : Judged e a = attaches e a is none in
      single_of kind level pages page page' places places' end end'
      (parted (firsts level pages) (deepers kind level pages) (apart (pages_of (all_ends a)) k.single))
      (from_contains pages page c) (from_contains pages page' c') short short' l l' same

  -- the ends of paths are those of the attached pages
  in_all : (kind : Kind) (level : ℕ) (pages : List ℕ) (page : ℕ) (places : List ℕ) (e : End) → In pages page
      → length places ≤ 3 - level → Leads heading trust h kind level page places e
      → In (all_ends (attached_from heading trust h kind level pages)) e
  in_all kind level pages page [] e i short same =
      in_left (firsts level pages) (deepers kind level pages) e
      (subst (λ (x : End). In (firsts level pages) x) same (in_firsts level pages page i))
  in_all kind level pages page (place ∷ places) e i short l =
      in_right (firsts level pages) (deepers kind level pages) e (in_deepers kind level pages page place places e i short l)

  pub to_attached : (kind : Kind) (level : ℕ) (pages : List ℕ) (page : ℕ) (places : List ℕ) (e : End) → Contains pages page
      → length places ≤ 3 - level → Leads heading trust h kind level page places e
      → Contains (all_ends (attached_from heading trust h kind level pages)) e
  to_attached kind level pages page places e c short l =
      to_contains (all_ends (attached_from heading trust h kind level pages)) e
      (in_all kind level pages page places e (from_contains pages page c) short l)

  pub from_attached : (kind : Kind) (level : ℕ) (pages : List ℕ) (e : End)
      → Contains (all_ends (attached_from heading trust h kind level pages)) e → (page : ℕ) × Contains pages page
      × (places : List ℕ) × (length places ≤ 3 - level) × Leads heading trust h kind level page places e
  from_attached kind level pages e c =
      elim (in_append (firsts level pages) (deepers kind level pages) e
      (from_contains (all_ends (attached_from heading trust h kind level pages)) e c)) [
        | inl first ↦ let p = from_map (end_at level) pages e first in (p.0, to_contains pages p.0 p.1, [], zero-le, p.2)
        | inr deeper ↦
            let p = from_flat (ends_below heading trust h kind (3 - level) level) pages e deeper in
            let l = path_from heading trust h (3 - level) kind level p.0 e (inr p.2) in
            (p.0, to_contains pages p.0 p.1, l.0, l.1, l.2)
      ]

  -- ---- leaves of the lower range

  -- the test of the rule
  abbrev is_lower_global : Kind → Desc → Bool
  is_lower_global kind desc = same_kind kind Ttbr0 && is_global desc

  zero_is_no_leaf : (kind : Kind) (level : ℕ) → is_global (desc_of kind level 0) ≡ false
  zero_is_no_leaf kind level = refl

  pub written_lower : (pe place value : ℕ) (n : Node) → global_user heading trust h (Write pe place value) ≡ None
      → node_of heading trust h (page_of place) ≡ Some n → n.kind ≡ Ttbr0 → is_global (desc_of n.kind n.level value) ≡ false
  written_lower pe place value n none node lower =
      let nothing : option_to_list (written_with heading trust h is_lower_global (Write pe place value)) ≡ []
      = (append_none (option_to_list (written_with heading trust h is_lower_global (Write pe place value)))
      (flat_map (attached_with is_lower_global (events_of h)) (option_to_list (attached_by heading trust h (Write pe place value))))
      (least_none (option_to_list (written_with heading trust h is_lower_global (Write pe place value))
      ++ flat_map (attached_with is_lower_global (events_of h)) (option_to_list (attached_by heading trust h (Write pe place value)))) none)).0 in
      by (is_global (desc_of n.kind n.level value)) refl
      (subst (λ (o : Option Node). option_to_list (option_and_then (λ m. if_so (is_lower_global m.kind (desc_of m.kind m.level value)) place) o) ≡ [])
      node nothing)
    where
      by : (c : Bool) → is_global (desc_of n.kind n.level value) ≡ c
          → option_to_list (if_so (same_kind n.kind Ttbr0 && is_global (desc_of n.kind n.level value)) place) ≡ [] → c ≡ false
      by false g e = refl
      by true g e =
          let passes : (same_kind n.kind Ttbr0 && is_global (desc_of n.kind n.level value)) ≡ true
          = and_from (same_kind n.kind Ttbr0) (is_global (desc_of n.kind n.level value)) (ap (λ (k : Kind). same_kind k Ttbr0) lower) g in
          let one : option_to_list (if_so true place) ≡ [] = subst (λ (b : Bool). option_to_list (if_so b place) ≡ []) passes e in cc

  pub attached_lower : (e : Event) (level : ℕ) (pages : List ℕ)
      → attached_by heading trust h e ≡ Some (attached_from heading trust h Ttbr0 level pages)
      → global_user heading trust h e ≡ None → (page place : ℕ) (places : List ℕ) (end : End) → Contains pages page
      → level + length places < 4 → Leads heading trust h Ttbr0 level page places end → page_of place ≡ end.page
      → is_global (desc_of Ttbr0 end.level (value_of (events_of h) place)) ≡ false
  attached_lower e level pages is none page place places end c short l inside =
      by (is_global (desc_of Ttbr0 end.level (value_of (events_of h) place))) refl
    where
      a : Attached
      a = attached_from heading trust h Ttbr0 level pages

      nothing : flat_map (attached_with is_lower_global (events_of h)) (option_to_list (attached_by heading trust h e)) ≡ []
      nothing = (append_none (option_to_list (written_with heading trust h is_lower_global e))
          (flat_map (attached_with is_lower_global (events_of h)) (option_to_list (attached_by heading trust h e)))
          (least_none (option_to_list (written_with heading trust h is_lower_global e)
          ++ flat_map (attached_with is_lower_global (events_of h)) (option_to_list (attached_by heading trust h e))) none)).1

      none_there : attached_with is_lower_global (events_of h) (attached_from heading trust h Ttbr0 level pages) ≡ []
      none_there = (append_none (attached_with is_lower_global (events_of h) (attached_from heading trust h Ttbr0 level pages)) []
          (subst (λ (o : Option Attached). flat_map (attached_with is_lower_global (events_of h)) (option_to_list o) ≡ []) is nothing)).0

      written : is_global (desc_of Ttbr0 end.level (value_of (events_of h) place)) ≡ true → In (places_in (events_of h) end.page) place
      written g =
          to_filter (λ (x : ℕ). page_of x == end.page) (written_places (events_of h)) place
          (written_by heading trust h place (events_of h) (λ z. true≢false (sym g
          ∙ (ap (λ (x : ℕ). is_global (desc_of Ttbr0 end.level x)) z ∙ zero_is_no_leaf Ttbr0 end.level))))
          (eq-eqb (page_of place) end.page inside)

      by : (c : Bool) → is_global (desc_of Ttbr0 end.level (value_of (events_of h) place)) ≡ c → c ≡ false
      by false g = refl
      by true g =
          absurd (none_in (attached_with is_lower_global (events_of h) (attached_from heading trust h Ttbr0 level pages)) place none_there
          (to_flat (places_with is_lower_global Ttbr0 (events_of h)) (all_ends (attached_from heading trust h Ttbr0 level pages)) end place
          (in_all Ttbr0 level pages page places end (from_contains pages page c) (omega arith) l)
          (to_filter (λ (x : ℕ). is_lower_global Ttbr0 (desc_of Ttbr0 end.level (value_of (events_of h) x))) (places_in (events_of h) end.page) place (written g) g)))
