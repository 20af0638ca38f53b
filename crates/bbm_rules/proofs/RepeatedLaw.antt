-- A page that is repeated among the ends of the paths of attached pages is one in which two different paths end.
use Rattle.bbm_rules.proofs.Common.{◌≡◌, ℕ, zero, suc, ◌-◌, ◌≤◌, Bool, true, false, ◌==◌, List, [], ◌∷◌, length, Option}
use Rattle.bbm_rules.proofs.Common.{Some, None, option_and_then, is_none, cond, flat_map, map, refl, sym, ◌∙◌, ap}
use Rattle.bbm_rules.proofs.Common.{subst, inl, inr, arith, true≢false, eq-eqb, eqb-true, Kind, Event, Root, Write, In}
use Rattle.bbm_rules.proofs.Common.{from_contains, from_filter, to_contains, Attached, End, all_ends, attached_by}
use Rattle.bbm_rules.proofs.Common.{attached_from, end_at, ends_below, pages_of, Trust, among, repeated, Noted}
use Rattle.bbm_rules.proofs.Common.{events_of, is_fresh, page_of, root_pages, start_of, Node, held_at, next_of, node_of}
use Rattle.bbm_rules.proofs.Common.{places_in, value_of, written_places}
use Rattle.bbm_events.specs.Heading.{Heading}
use Rattle.bbm_lemmas.proofs.Words.{Apart}
use Rattle.bbm_lemmas.proofs.Elements.{from_flat}
use Rattle.bbm_rules.proofs.RootPages.{apart_pages}
use Rattle.bbm_rules.proofs.TreeLaw.{below_fresh, ends_from, one_more, path_from, path_to_end, place_of_table}
use Rattle.bbm_rules.proofs.Twice.{InPage, Parts, Twice, apart_places, flat_via, from_repeated, of_flat, of_one, of_two}
use Rattle.bbm_rules.proofs.Twice.{to_page, to_repeated, twice_each, twice_parts, twice_right, via}
use Rattle.bbm_rules.specs.PathSentences.{PathInto, TwoPaths}
use Rattle.bbm_rules.specs.TreeSentences.{Leads}

module _ (heading : Heading) (trust : Trust) (h : List Noted) (kind : Kind) where
  abbrev next_at : ℕ → ℕ → Option ℕ
  next_at level place = next_of kind level (value_of (events_of h) place)

  -- the ends of the paths by one place first
  abbrev by_place : ℕ → ℕ → ℕ → List End
  by_place left level place = via (ends_from heading trust h kind left (suc level)) (next_at level place)

  abbrev below : ℕ → ℕ → ℕ → List End
  below left level start = ends_below heading trust h kind left level start

  -- from a fresh page the ends are those of its places, and from another page there are none
  when_fresh : (P : List End → Type 0) → (P [] → ⊥) → (left level start : ℕ) → P (below (suc left) level start)
      → (is_fresh heading trust h start ≡ true) × P (flat_map (by_place left level) (places_in (events_of h) start))
  when_fresh P none left level start k = by (is_fresh heading trust h start) refl
    where
      by : (c : Bool) → is_fresh heading trust h start ≡ c
          → (is_fresh heading trust h start ≡ true) × P (flat_map (by_place left level) (places_in (events_of h) start))
      by true f = (
        f,
        subst P (below_fresh heading trust h kind left level start f
            ∙ flat_via (next_at level) (ends_from heading trust h kind left (suc level)) (places_in (events_of h) start)) k,
      )
      by false f =
          let empty : below (suc left) level start ≡ [] = rw (f, ends_below) refl in
          absurd (none (subst P empty k))

  from_places : (P : List End → Type 0) → (left level start : ℕ) → is_fresh heading trust h start ≡ true
      → P (flat_map (by_place left level) (places_in (events_of h) start)) → P (below (suc left) level start)
  from_places P left level start f k =
      subst P (sym (below_fresh heading trust h kind left level start f
      ∙ flat_via (next_at level) (ends_from heading trust h kind left (suc level)) (places_in (events_of h) start))) k

  -- ---- a path that ends in the page

  pub record Path (left level start page : ℕ) (places : List ℕ) : Type 0 where
    pub end : End
    pub short : length places ≤ left
    pub leads : Leads heading trust h kind level start places end
    pub ends : end.page ≡ page

  -- one place more in front
  longer_path : (left level start page place next : ℕ) (places : List ℕ) → is_fresh heading trust h start ≡ true
      → page_of place ≡ start → next_at level place ≡ Some next → Path left (suc level) next page places
      → Path (suc left) level start page (place ∷ places)
  longer_path left level start page place next places fresh inside table p =
      let short : length places ≤ left = p.short in
      record { end = p.end; short = omega arith; leads = (fresh, inside, next, table, p.leads); ends = p.ends }

  no_page : (page : ℕ) → InPage page [] → ⊥
  no_page page p = p.there

  inside_of : (start place : ℕ) → In (places_in (events_of h) start) place → page_of place ≡ start
  inside_of start place i = eqb-true (page_of place) start (from_filter (λ x. page_of x == start) (written_places (events_of h)) place i).1

  -- an end by one place gives a path from its next page
  path_by : (left level place page : ℕ) → InPage page (by_place left level place)
      → (next : ℕ) × (next_at level place ≡ Some next) × (places : List ℕ) × Path left (suc level) next page places
  path_by left level place page p = by (next_at level place) refl p
    where
      by : (o : Option ℕ) → next_at level place ≡ o → InPage page (via (ends_from heading trust h kind left (suc level)) o)
          → (next : ℕ) × (next_at level place ≡ Some next) × (places : List ℕ) × Path left (suc level) next page places
      by None k p = absurd p.there
      by (Some next) k p =
          let r = path_from heading trust h left kind (suc level) next p.end p.there in
          (next, k, r.0, record { end = p.end; short = r.1; leads = r.2; ends = p.lies })

  -- an end below a page gives a path of one place at least
  path_below : (left level start page : ℕ) → InPage page (below left level start)
      → (place : ℕ) × (places : List ℕ) × Path left level start page (place ∷ places)
  path_below zero level start page p = absurd p.there
  path_below (suc left) level start page p =
      let f = when_fresh (InPage page) (no_page page) left level start p in
      let k : InPage page (flat_map (by_place left level) (places_in (events_of h) start)) = f.1 in
      let place = from_flat (by_place left level) (places_in (events_of h) start) k.end k.there in
      let r = path_by left level place.0 page (record { end = k.end; there = place.2; lies = k.lies }) in (
        place.0,
        r.2,
        longer_path left level start page place.0 r.0 r.2 f.0 (inside_of start place.0 place.1) r.1 r.3,
      )

  -- and a path gives an end
  page_by : (left level place next page : ℕ) (places : List ℕ) → next_at level place ≡ Some next
      → Path left (suc level) next page places → InPage page (by_place left level place)
  page_by left level place next page places table p =
      subst (λ (o : Option ℕ). InPage page (via (ends_from heading trust h kind left (suc level)) o)) (sym table)
      (record { end = p.end; there = path_to_end heading trust h left kind (suc level) next places p.end p.short p.leads; lies = p.ends })

  page_below : (left level start page place : ℕ) (places : List ℕ) → Path left level start page (place ∷ places)
      → InPage page (below left level start)
  page_below zero level start page place places p = let short : length (place ∷ places) ≤ 0 = p.short in absurd (omega arith)
  page_below (suc left) level start page place places p =
      let l : Leads heading trust h kind level start (place ∷ places) p.end = p.leads in
      let short : length (place ∷ places) ≤ suc left = p.short in
      record {
        end = p.end;
        there = one_more heading trust h left kind level start place places p.end l
            (path_to_end heading trust h left kind (suc level) l.2 places p.end (omega arith) l.4);
        lies = p.ends;
      }

  -- ---- two paths from one page

  pub record TwoFrom (left level start page : ℕ) : Type 0 where
    pub places : List ℕ
    pub others : List ℕ
    pub one : Path left level start page places
    pub other : Path left level start page others
    pub different : places ≡ others → ⊥

  abbrev FromTwice : ℕ → Type 0
  FromTwice left = (level start page : ℕ) → Twice page (ends_from heading trust h kind left level start) → TwoFrom left level start page

  two_by : (left : ℕ) → FromTwice left → (level place page : ℕ) → Twice page (by_place left level place)
      → (next : ℕ) × (next_at level place ≡ Some next) × TwoFrom left (suc level) next page
  two_by left rest level place page t = by (next_at level place) refl t
    where
      by : (o : Option ℕ) → next_at level place ≡ o → Twice page (via (ends_from heading trust h kind left (suc level)) o)
          → (next : ℕ) × (next_at level place ≡ Some next) × TwoFrom left (suc level) next page
      by None k t = absurd t
      by (Some next) k t = (next, k, rest (suc level) next page t)

  two_below_step : (left : ℕ) → FromTwice left → (level start page : ℕ) → Twice page (below (suc left) level start)
      → TwoFrom (suc left) level start page
  two_below_step left rest level start page t =
      let f = when_fresh (Twice page) (λ x. x) left level start t in
      elim (of_flat page (by_place left level) (places_in (events_of h) start) (apart_places (events_of h) start) f.1) [
        | inl o ↦
            let r = two_by left rest level o.n page o.twice in
            let k : TwoFrom left (suc level) r.0 page = r.2 in
            record {
              places = o.n ∷ k.places;
              others = o.n ∷ k.others;
              one = longer_path left level start page o.n r.0 k.places f.0 (inside_of start o.n o.there) r.1 k.one;
              other = longer_path left level start page o.n r.0 k.others f.0 (inside_of start o.n o.there) r.1 k.other;
              different = λ same. let tails : k.places ≡ k.others = cc in k.different tails;
            }
        | inr o ↦
            let r = path_by left level o.n page o.n_in in
            let s = path_by left level o.m page o.m_in in
            record {
              places = o.n ∷ r.2;
              others = o.m ∷ s.2;
              one = longer_path left level start page o.n r.0 r.2 f.0 (inside_of start o.n o.n_there) r.1 r.3;
              other = longer_path left level start page o.m s.0 s.2 f.0 (inside_of start o.m o.m_there) s.1 s.3;
              different = λ same. let heads : o.n ≡ o.m = cc in o.apart heads;
            }
      ]

  empty_path : (left level start page : ℕ) → start ≡ page → Path left level start page []
  empty_path left level start page same = record { end = end_at level start; short = omega arith; leads = refl; ends = same }

  two_from_step : (left : ℕ) → ((level start page : ℕ) → Twice page (below left level start) → TwoFrom left level start page)
      → FromTwice left
  two_from_step left deeper level start page (inl t) =
      let r = path_below left level start page t.1 in
      record {
        places = [];
        others = r.0 ∷ r.1;
        one = empty_path left level start page t.0;
        other = r.2;
        different = λ same. cc;
      }
  two_from_step left deeper level start page (inr t) = deeper level start page t

  two_from : (left : ℕ) → FromTwice left
  two_from zero = two_from_step zero (λ level start page t. absurd t)
  two_from (suc left) = two_from_step (suc left) (two_below_step left (two_from left))

  two_below : (left level start page : ℕ) → Twice page (below left level start) → TwoFrom left level start page
  two_below zero level start page t = absurd t
  two_below (suc left) level start page t = two_below_step left (two_from left) level start page t

  -- ---- and back

  abbrev ToTwice : ℕ → Type 0
  ToTwice left = (level start page : ℕ) (ps qs : List ℕ) → Path left level start page ps → Path left level start page qs
      → (ps ≡ qs → ⊥) → Twice page (ends_from heading trust h kind left level start)

  -- the path from the next page of the first place
  record Rest (left level start page p : ℕ) (ps : List ℕ) : Type 0 where
    next : ℕ
    table : next_at level p ≡ Some next
    fresh : is_fresh heading trust h start ≡ true
    inside : page_of p ≡ start
    path : Path left (suc level) next page ps

  rest_of : (left level start page p : ℕ) (ps : List ℕ) → Path (suc left) level start page (p ∷ ps)
      → Rest left level start page p ps
  rest_of left level start page p ps k =
      let l : Leads heading trust h kind level start (p ∷ ps) k.end = k.leads in
      let short : length (p ∷ ps) ≤ suc left = k.short in
      record {
        next = l.2;
        table = l.3;
        fresh = l.0;
        inside = l.1;
        path = record { end = k.end; short = omega arith; leads = l.4; ends = k.ends };
      }

  below_twice : (left : ℕ) → ToTwice left → (level start page p q : ℕ) (ps qs : List ℕ) → Rest left level start page p ps
      → Rest left level start page q qs → (p ∷ ps ≡ q ∷ qs → ⊥) → Twice page (below (suc left) level start)
  below_twice left rest level start page p q ps qs r s apart = by (p == q) refl
    where
      by : (c : Bool) → (p == q) ≡ c → Twice page (below (suc left) level start)
      by false c =
          from_places (Twice page) left level start r.fresh
          (of_two page (by_place left level) (places_in (events_of h) start) p q
          (place_of_table heading trust h kind level start p r.next r.inside r.table)
          (place_of_table heading trust h kind level start q s.next s.inside s.table)
          (λ same. true≢false (sym (eq-eqb p q same) ∙ c))
          (page_by left level p r.next page ps r.table r.path) (page_by left level q s.next page qs s.table s.path))
      by true c =
          let same : p ≡ q = eqb-true p q c in
          let both : Some s.next ≡ Some r.next = sym s.table ∙ (ap (next_at level) (sym same) ∙ r.table) in
          let next : s.next ≡ r.next = cc in
          from_places (Twice page) left level start r.fresh
          (of_one page (by_place left level) (places_in (events_of h) start) p
          (place_of_table heading trust h kind level start p r.next r.inside r.table)
          (subst (λ (o : Option ℕ). Twice page (via (ends_from heading trust h kind left (suc level)) o)) (sym r.table)
          (rest (suc level) r.next page ps qs r.path (subst (λ (x : ℕ). Path left (suc level) x page qs) next s.path)
          (λ tails. apart (ap (λ (x : ℕ). x ∷ ps) same ∙ ap (λ (xs : List ℕ). q ∷ xs) tails)))))

  starts_in : (left level start page : ℕ) → Path left level start page [] → start ≡ page
  starts_in left level start page k = ap (λ (x : End). x.page) k.leads ∙ k.ends

  from_two : (left : ℕ) → ToTwice left
  from_two left level start page [] [] k l apart = absurd (apart refl)
  from_two left level start page [] (q ∷ qs) k l apart =
      inl (starts_in left level start page k, page_below left level start page q qs l)
  from_two left level start page (p ∷ ps) [] k l apart =
      inl (starts_in left level start page l, page_below left level start page p ps k)
  from_two zero level start page (p ∷ ps) (q ∷ qs) k l apart =
      let short : length (p ∷ ps) ≤ 0 = k.short in absurd (omega arith)
  from_two (suc left) level start page (p ∷ ps) (q ∷ qs) k l apart =
      inr (below_twice left (from_two left) level start page p q ps qs (rest_of left level start page p ps k)
      (rest_of left level start page q qs l) apart)

  two_twice : (left level start page p q : ℕ) (ps qs : List ℕ) → Path left level start page (p ∷ ps)
      → Path left level start page (q ∷ qs) → (p ∷ ps ≡ q ∷ qs → ⊥) → Twice page (below left level start)
  two_twice zero level start page p q ps qs k l apart =
      let short : length (p ∷ ps) ≤ 0 = k.short in absurd (omega arith)
  two_twice (suc left) level start page p q ps qs k l apart =
      below_twice left (from_two left) level start page p q ps qs (rest_of left level start page p ps k)
      (rest_of left level start page q qs l) apart

  -- ---- from several pages

  abbrev firsts : ℕ → List ℕ → List End
  firsts level pages = map (end_at level) pages

  first_of : (level : ℕ) (pages : List ℕ) (page : ℕ) → InPage page (firsts level pages) → In pages page
  first_of level pages page p = by pages p.there
    where
      by : (pages : List ℕ) → In (firsts level pages) p.end → In pages page
      by [] i = absurd i
      by (x ∷ pages) (inl same) = inl (ap (λ (e : End). e.page) same ∙ p.lies)
      by (x ∷ pages) (inr i) = inr (by pages i)

  to_first : (level : ℕ) (pages : List ℕ) (page : ℕ) → In pages page → InPage page (firsts level pages)
  to_first level pages page i = record { end = end_at level page; there = by pages i; lies = refl }
    where
      by : (pages : List ℕ) → In pages page → In (firsts level pages) (end_at level page)
      by [] i = absurd i
      by (x ∷ pages) (inl same) = inl (ap (end_at level) same)
      by (x ∷ pages) (inr i) = inr (by pages i)

  once : (level : ℕ) (pages : List ℕ) (page : ℕ) → Apart pages → Twice page (firsts level pages) → ⊥
  once level [] page a t = t
  once level (x ∷ pages) page a (inl t) =
      a.0 (subst (λ (y : ℕ). In pages y) (sym t.0) (first_of level pages page t.1))
  once level (x ∷ pages) page a (inr t) = once level pages page a.1 t

  abbrev Two : ℕ → List ℕ → ℕ → Type 0
  Two level pages page = TwoPaths heading trust h kind level pages page

  abbrev path_into : (level : ℕ) (pages : List ℕ) (page start : ℕ) (places : List ℕ) → In pages start
      → Path (3 - level) level start page places → PathInto heading trust h kind level pages page
  path_into level pages page start places i k = record {
    start = start;
    places = places;
    end = k.end;
    is_start = to_contains pages start i;
    short = k.short;
    leads = k.leads;
    ends = k.ends;
  }

  two_paths : (level : ℕ) (pages : List ℕ) (page start other : ℕ) (places others : List ℕ) → In pages start → In pages other
      → Path (3 - level) level start page places → Path (3 - level) level other page others
      → ((start ≡ other) × (places ≡ others) → ⊥) → Two level pages page
  two_paths level pages page start other places others i j k l apart =
      (path_into level pages page start places i k, path_into level pages page other others j l, apart)

  pub twice_two : (level : ℕ) (pages : List ℕ) (page : ℕ) → Apart pages
      → Twice page (all_ends (attached_from heading trust h kind level pages)) → Two level pages page
  twice_two level pages page a t =
      elim (twice_parts page (firsts level pages) (flat_map (below (3 - level) level) pages) t) [
        | Parts.left s ↦ absurd (once level pages page a s)
        | Parts.each p r ↦
            let i = first_of level pages page p in
            let f = from_flat (below (3 - level) level) pages r.end r.there in
            let k = path_below (3 - level) level f.0 page (record { end = r.end; there = f.2; lies = r.lies }) in
            two_paths level pages page page f.0 [] (k.0 ∷ k.1) i f.1 (empty_path (3 - level) level page page refl) k.2
            (λ same. let apart : [] ≡ k.0 ∷ k.1 = same.1 in cc)
        | Parts.right s ↦ elim (of_flat page (below (3 - level) level) pages a s) [
          | inl o ↦
              let k : TwoFrom (3 - level) level o.n page = two_below (3 - level) level o.n page o.twice in
              two_paths level pages page o.n o.n k.places k.others o.there o.there k.one k.other (λ same. k.different same.1)
          | inr o ↦
              let k = path_below (3 - level) level o.n page o.n_in in
              let l = path_below (3 - level) level o.m page o.m_in in
              two_paths level pages page o.n o.m (k.0 ∷ k.1) (l.0 ∷ l.1) o.n_there o.m_there k.2 l.2 (λ same. o.apart same.0)
        ]
      ]

  pub paths_twice : (level : ℕ) (pages : List ℕ) (page start other : ℕ) (places others : List ℕ) → In pages start → In pages other
      → Path (3 - level) level start page places → Path (3 - level) level other page others
      → ((start ≡ other) × (places ≡ others) → ⊥) → Twice page (all_ends (attached_from heading trust h kind level pages))
  paths_twice level pages page start other [] [] i j k l apart =
      absurd (apart (starts_in (3 - level) level start page k ∙ sym (starts_in (3 - level) level other page l), refl))
  paths_twice level pages page start other [] (q ∷ qs) i j k l apart =
      twice_each page (firsts level pages) (flat_map (below (3 - level) level) pages)
      (to_first level pages page (subst (λ (x : ℕ). In pages x) (starts_in (3 - level) level start page k) i))
      (to_page page (below (3 - level) level) pages other j (page_below (3 - level) level other page q qs l))
  paths_twice level pages page start other (p ∷ ps) [] i j k l apart =
      twice_each page (firsts level pages) (flat_map (below (3 - level) level) pages)
      (to_first level pages page (subst (λ (x : ℕ). In pages x) (starts_in (3 - level) level other page l) j))
      (to_page page (below (3 - level) level) pages start i (page_below (3 - level) level start page p ps k))
  paths_twice level pages page start other (p ∷ ps) (q ∷ qs) i j k l apart =
      twice_right page (firsts level pages) (flat_map (below (3 - level) level) pages) (by (start == other) refl)
    where
      by : (c : Bool) → (start == other) ≡ c → Twice page (flat_map (below (3 - level) level) pages)
      by false c =
          of_two page (below (3 - level) level) pages start other i j (λ same. true≢false (sym (eq-eqb start other same) ∙ c))
          (page_below (3 - level) level start page p ps k) (page_below (3 - level) level other page q qs l)
      by true c =
          let same : start ≡ other = eqb-true start other c in
          of_one page (below (3 - level) level) pages start i
          (two_twice (3 - level) level start page p q ps qs k
          (subst (λ (x : ℕ). Path (3 - level) level x page (q ∷ qs)) (sym same) l) (λ tails. apart (same, tails)))

-- ---- what an event attaches

module _ (heading : Heading) (trust : Trust) (h : List Noted) where
  -- the pages of the first ends
  same_firsts : (level : ℕ) (pages : List ℕ) → pages_of (map (end_at level) pages) ≡ pages
  same_firsts level [] = refl
  same_firsts level (page ∷ pages) = ap (λ (ps : List ℕ). page ∷ ps) (same_firsts level pages)

  -- the pages that an event names are different ones
  apart_firsts : (e : Event) (a : Attached) → attached_by heading trust h e ≡ Some a → Apart (pages_of a.first)
  apart_firsts (Write pe place value) a k = by_node (node_of heading trust h (page_of place)) k
    where
      by_next : (n : Node) (o : Option ℕ)
          → option_and_then (λ next. Some (attached_from heading trust h n.kind (suc n.level) (next ∷ []))) o ≡ Some a
          → Apart (pages_of a.first)
      by_next n None k = cc
      by_next n (Some next) k =
          let same : attached_from heading trust h n.kind (suc n.level) (next ∷ []) ≡ a = cc in
          subst (λ (x : Attached). Apart (pages_of x.first)) same (λ i. i, tt)

      by_node : (o : Option Node) → option_and_then (λ n. option_and_then
          (λ next. Some (attached_from heading trust h n.kind (suc n.level) (next ∷ [])))
          (cond (is_none (held_at heading trust h n place)) (next_of n.kind n.level value) None)) o ≡ Some a
          → Apart (pages_of a.first)
      by_node None k = cc
      by_node (Some n) k = by_next n (cond (is_none (held_at heading trust h n place)) (next_of n.kind n.level value) None) k
  apart_firsts (Root pe kind lock page) a k =
      let same : attached_from heading trust h kind (start_of heading.world kind) (root_pages heading.world kind page) ≡ a = cc in
      subst (λ (x : Attached). Apart (pages_of x.first)) same
      (subst Apart (sym (same_firsts (start_of heading.world kind) (root_pages heading.world kind page)))
      (apart_pages heading kind page))
  apart_firsts e a k = let none : None ≡ Some a = k in cc

  pub repeated_sound : (e : Event) (kind : Kind) (level : ℕ) (pages : List ℕ)
      → attached_by heading trust h e ≡ Some (attached_from heading trust h kind level pages) → (page : ℕ)
      → among page (repeated (pages_of (all_ends (attached_from heading trust h kind level pages)))) ≡ true
      → TwoPaths heading trust h kind level pages page
  repeated_sound e kind level pages is page k =
      twice_two heading trust h kind level pages page
      (subst Apart (same_firsts level pages) (apart_firsts e (attached_from heading trust h kind level pages) is))
      (from_repeated page (all_ends (attached_from heading trust h kind level pages)) k)

  pub repeated_complete : (kind : Kind) (level : ℕ) (pages : List ℕ) (page : ℕ) → TwoPaths heading trust h kind level pages page
      → among page (repeated (pages_of (all_ends (attached_from heading trust h kind level pages)))) ≡ true
  repeated_complete kind level pages page t =
      to_repeated page (all_ends (attached_from heading trust h kind level pages))
      (paths_twice heading trust h kind level pages page t.0.start t.1.start t.0.places t.1.places
      (from_contains pages t.0.start t.0.is_start) (from_contains pages t.1.start t.1.is_start)
      (record { end = t.0.end; short = t.0.short; leads = t.0.leads; ends = t.0.ends })
      (record { end = t.1.end; short = t.1.short; leads = t.1.leads; ends = t.1.ends }) t.2)
