-- The paths of attached pages, by fresh pages and present values, are those of the definitions; and what the three
-- rules on attached pages say by them.
use Rattle.bbm_rules.proofs.Common.{◌≡◌, ℕ, zero, suc, ◌+◌, ◌-◌, ◌<◌, ◌≤◌, Bool, true, false, cond, List, [], ◌∷◌}
use Rattle.bbm_rules.proofs.Common.{length, Some, None, Contains, flat_map, filter_map, refl, sym, ◌∙◌, ap, subst, inl}
use Rattle.bbm_rules.proofs.Common.{inr, arith, Kind, Event, Attached, End, all_ends, attached_from, end_at, ends_below}
use Rattle.bbm_rules.proofs.Common.{Patterns, Noted, events_of, is_fresh, page_of, Node, next_of, places_in, value_of}
use Rattle.bbm_rules.proofs.Common.{In, from_contains, from_map, in_append, in_left, in_map, in_right, to_contains}
use Rattle.bbm_rules.proofs.Common.{to_flat, from_filter, eqb-true, written_places, ◌==◌, not, ◌++◌, Option, true≢false}
use Rattle.bbm_rules.proofs.Common.{append-nil, not-true, not_from_false, desc_of, Desc, Invalid, Table, Leaf}
use Rattle.bbm_rules.proofs.Common.{attached_by, pages_of, repeated, attached_with, judged_ends, made_with, not_fresh}
use Rattle.bbm_rules.proofs.Common.{places_with, unfresh, untracked_page, written_with, next_in, to_filter, and-false}
use Rattle.bbm_events.specs.Heading.{Heading}
use Rattle.bbm_rules.specs.TreeSentences.{Leads as LeadsIn}
use Rattle.bbm_replay_trees.specs.BelowTrees.{Below}
use Rattle.bbm_tree_index.specs.Attaching.{IsPath, EndsTwice, HasPlace, IsUnfresh, is_bad, is_user_global}
use Rattle.bbm_tree_index.specs.Paths.{Leads}
use Rattle.bbm_replay_trees.specs.Told.{AllFit, SameFresh, SameValues, is_at, notes}
use Rattle.bbm_lemmas.proofs.Elements.{from_filter_map, from_flat}
use Rattle.bbm_tree_index.proofs.Places.{at_page}
use Rattle.bbm_rules.proofs.TreeLaw.{ends_from, one_more, path_from as path_of, path_to_end, place_of_table}
use Rattle.bbm_replay_trees.proofs.FitLemmas.{at_place, to_place}
use Rattle.bbm_rules.specs.PathSentences.{PathInto, TwoPaths}
use Rattle.bbm_replay_trees.specs.Judging.{Judging}
use Rattle.bbm_lemmas.proofs.Words.{among_in, in_among}
use Rattle.bbm_replay_trees.proofs.LeastLemmas.{least_is}
use Rattle.bbm_tree_index.specs.LeastPages.{LeastOf}

-- the nodes at which paths begin are those of these pages, of the kind and at the level
pub record Starts (kind : Kind) (level : ℕ) (pages : List ℕ) (starts : List Node) : Type 0 where
  pub of_start : (s : Node) → Contains starts s → (s.kind ≡ kind) × (s.level ≡ level) × Contains pages s.page
  pub to_start : (page : ℕ) → Contains pages page → (s : Node) × Contains starts s × (s.page ≡ page)
  pub shallow : level < 4

-- a path from a start, of at least one place where the pages are named
pub record PathTo (fresh : ℕ → Bool) (value : ℕ → ℕ) (starts : List Node) (named : Bool) (end : End) : Type 0 where
  pub start : Node
  pub places : List ℕ
  pub path : IsPath fresh value starts start places end
  pub judged : named ≡ true → places ≡ [] → ⊥

-- a test that passes leaves alone
pub record OfLeaves (test : Kind → Desc → Bool) : Type 0 where
  pub invalid : (kind : Kind) → test kind Invalid ≡ false
  pub table : (kind : Kind) (next : ℕ) (ns : Bool) → test kind (Table next ns) ≡ false

pub no_leaf : (test : Kind → Desc → Bool) → OfLeaves test → (kind : Kind) (d : Desc) (next : ℕ) → next_in d ≡ Some next
    → test kind d ≡ false
no_leaf test o kind Invalid next e = o.invalid kind
no_leaf test o kind (Table to ns) next e = o.table kind to ns
no_leaf test o kind (Leaf out attrs share global contiguous) next e = let none : None ≡ Some next = e in cc

module _ (heading : Heading) (b : Below heading) (h : List Event) (fit : AllFit heading h) (fresh : ℕ → Bool)
    (value : ℕ → ℕ) (same_fresh : SameFresh heading h fresh) (same_value : SameValues h value) where
  abbrev marks : List Noted
  marks = notes heading h

  -- the value of a place
  pub value_is : (a : ℕ) → value a ≡ value_of (events_of marks) a
  value_is a = same_value a ∙ ap (λ es. value_of es a) (sym (b.notes_keep_the_events h))

  -- a place with a table value
  pub table_at : (kind : Kind) (level page place next : ℕ) → next_of kind level (value_of (events_of marks) place) ≡ Some next
      → page_of place ≡ page → is_at page place ≡ true
  table_at kind level page place next table inside =
      at_place heading h (b.notes_keep_the_events h) page place fit
      (place_of_table heading Patterns marks kind level page place next inside table)

  pub to_mine : (kind : Kind) (level page : ℕ) (places : List ℕ) (end : End)
      → LeadsIn heading Patterns marks kind level page places end → Leads fresh value kind level page places end
  to_mine kind level page [] end l = l
  to_mine kind level page (place ∷ places) end l = (
    same_fresh page ∙ l.0,
    table_at kind level page place l.2 l.3 l.1,
    l.2,
    ap (next_of kind level) (value_is place) ∙ l.3,
    to_mine kind (suc level) l.2 places end l.4,
  )

  pub to_theirs : (kind : Kind) (level page : ℕ) (places : List ℕ) (end : End)
      → Leads fresh value kind level page places end → LeadsIn heading Patterns marks kind level page places end
  to_theirs kind level page [] end l = l
  to_theirs kind level page (place ∷ places) end l = (
    sym (same_fresh page) ∙ l.0,
    at_page page place l.1,
    l.2,
    ap (next_of kind level) (sym (value_is place)) ∙ l.3,
    to_theirs kind (suc level) l.2 places end l.4,
  )

  -- a path of at least one place
  abbrev Deeper : ℕ → Kind → ℕ → ℕ → End → Type 0
  Deeper left kind level page end = (place : ℕ) × (places : List ℕ) × (suc (length places) ≤ left)
      × LeadsIn heading Patterns marks kind level page (place ∷ places) end

  deeper : (left : ℕ) (kind : Kind) (level page : ℕ) (end : End)
      → In (ends_below heading Patterns marks kind left level page) end → Deeper left kind level page end
  deeper zero kind level page end i = absurd i
  deeper (suc left) kind level page end i = by (is_fresh heading Patterns marks page) refl i
    where
      nexts : List ℕ
      nexts = filter_map (λ place. next_of kind level (value_of (events_of marks) place)) (places_in (events_of marks) page)

      by : (c : Bool) → is_fresh heading Patterns marks page ≡ c
          → In (cond c (flat_map (ends_from heading Patterns marks kind left (suc level)) (filter_map
          (λ place. next_of kind level (value_of (events_of marks) place)) (places_in (events_of marks) page))) []) end
          → Deeper (suc left) kind level page end
      by false k i = absurd i
      by true k i =
          let next = from_flat (ends_from heading Patterns marks kind left (suc level)) nexts end i in
          let place = from_filter_map (λ place. next_of kind level (value_of (events_of marks) place))
          (places_in (events_of marks) page) next.0 next.1 in
          let inside = from_filter (λ (x : ℕ). page_of x == page) (written_places (events_of marks)) place.0 place.1 in
          let r = path_of heading Patterns marks left kind (suc level) next.0 end next.2 in
          let short : length r.0 ≤ left = r.1 in
          (place.0, r.0, omega (arith, short), (k, eqb-true (page_of place.0) page inside.1, next.0, place.2, r.2))

  module _ (kind : Kind) (level : ℕ) (pages : List ℕ) (starts : List Node) (st : Starts kind level pages starts) where
    abbrev whole : Attached
    whole = attached_from heading Patterns marks kind level pages

    -- the ends that are judged
    abbrev ends_of : Bool → List End
    ends_of true = whole.deeper
    ends_of false = all_ends whole

    leads_at : (s : Node) (places : List ℕ) (end : End) → IsPath fresh value starts s places end
        → Leads fresh value kind level s.page places end
    leads_at s places end p =
        let k = st.of_start s p.is_start in
        rw (← k.0, ← k.1) p.leads

    within_at : (s : Node) (places : List ℕ) (end : End) → IsPath fresh value starts s places end → level + length places < 4
    within_at s places end p = subst (λ (l : ℕ). l + length places < 4) (st.of_start s p.is_start).1 p.within

    -- a path from one of the pages begins at a start
    path_from : (page : ℕ) → Contains pages page → (places : List ℕ) (end : End) → level + length places < 4
        → Leads fresh value kind level page places end
        → (s : Node) × IsPath fresh value starts s places end × (s.page ≡ page)
    path_from page c places end short l =
        let s = st.to_start page c in
        let k = st.of_start s.0 s.1 in (
          s.0,
          record {
            is_start = s.1;
            within = subst (λ (x : ℕ). x + length places < 4) (sym k.1) short;
            leads = rw (k.0, k.1, s.2) l;
          },
          s.2,
        )

    in_deeper : (s : Node) (place : ℕ) (places : List ℕ) (end : End) → IsPath fresh value starts s (place ∷ places) end
        → In whole.deeper end
    in_deeper s place places end p =
        let short : level + suc (length places) < 4 = within_at s (place ∷ places) end p in
        let left : suc (2 - level) ≡ 3 - level = omega (arith, short) in
        let l = to_theirs kind level s.page (place ∷ places) end (leads_at s (place ∷ places) end p) in
        to_flat (ends_below heading Patterns marks kind (3 - level) level) pages s.page end
        (from_contains pages s.page (st.of_start s p.is_start).2)
        (subst (λ (x : ℕ). In (ends_below heading Patterns marks kind x level s.page) end) left
        (one_more heading Patterns marks (2 - level) kind level s.page place places end l
        (path_to_end heading Patterns marks (2 - level) kind (suc level) l.2 places end (omega (arith, short)) l.4)))

    to_ends : (named : Bool) (s : Node) (places : List ℕ) (end : End) → IsPath fresh value starts s places end
        → (named ≡ true → places ≡ [] → ⊥) → In (ends_of named) end
    to_ends true s [] end p judged = absurd (judged refl refl)
    to_ends true s (place ∷ places) end p judged = in_deeper s place places end p
    to_ends false s [] end p judged =
        in_left whole.first whole.deeper end (subst (In whole.first) (leads_at s [] end p)
        (in_map (end_at level) pages s.page (from_contains pages s.page (st.of_start s p.is_start).2)))
    to_ends false s (place ∷ places) end p judged =
        in_right whole.first whole.deeper end (in_deeper s place places end p)

    from_deeper : (end : End) → In whole.deeper end → PathTo fresh value starts true end
    from_deeper end i =
        let f = from_flat (ends_below heading Patterns marks kind (3 - level) level) pages end i in
        let d = deeper (3 - level) kind level f.0 end f.2 in
        let within : level + suc (length d.1) < 4 = omega (arith, d.2, st.shallow) in
        let r = path_from f.0 (to_contains pages f.0 f.1) (d.0 ∷ d.1) end within
        (to_mine kind level f.0 (d.0 ∷ d.1) end d.3) in
        record { start = r.0; places = d.0 ∷ d.1; path = r.1; judged = λ k none. cc }

    from_ends : (named : Bool) (end : End) → In (ends_of named) end → PathTo fresh value starts named end
    from_ends true end i = from_deeper end i
    from_ends false end i = elim (in_append whole.first whole.deeper end i) [
      | inl first ↦
          (let f = from_map (end_at level) pages end first in
          let within : level + 0 < 4 = omega (arith, st.shallow) in
          let r = path_from f.0 (to_contains pages f.0 f.1) [] end within f.2 in
          record { start = r.0; places = []; path = r.1; judged = λ k none. true≢false (sym k) })
      | inr deep ↦
          (let r : PathTo fresh value starts true end = from_deeper end deep in
          record { start = r.start; places = r.places; path = r.path; judged = λ k none. true≢false (sym k) })
    ]

    -- ---- fresh pages

    abbrev page_list : Bool → List ℕ
    page_list named = unfresh heading Patterns marks (pages_of (ends_of named)) ++ repeated (pages_of (all_ends whole))

    out_of : (page : ℕ) (t : PathInto heading Patterns marks kind level pages page)
        → (s : Node) × IsPath fresh value starts s t.places t.end × (s.page ≡ t.start)
    out_of page t =
        let within : level + length t.places < 4 = omega (arith, t.short, st.shallow) in
        path_from t.start t.is_start t.places t.end within (to_mine kind level t.start t.places t.end t.leads)

    twice_from : (page : ℕ) → TwoPaths heading Patterns marks kind level pages page → EndsTwice fresh value starts page
    twice_from page t =
        let one = out_of page t.0 in
        let two = out_of page t.1 in
        record {
          start = one.0;
          places = t.0.places;
          end = t.0.end;
          path = one.1;
          ends = t.0.ends;
          other_start = two.0;
          other_places = t.1.places;
          other_end = t.1.end;
          other_path = two.1;
          other_ends = t.1.ends;
          differ = λ k l. t.2 (sym one.2 ∙ (k ∙ two.2), l);
        }

    into : (page : ℕ) (s : Node) (places : List ℕ) (end : End) → IsPath fresh value starts s places end
        → end.page ≡ page → PathInto heading Patterns marks kind level pages page
    into page s places end p ends = let within : level + length places < 4 = within_at s places end p in record {
      start = s.page;
      places = places;
      end = end;
      is_start = (st.of_start s p.is_start).2;
      short = omega (arith, within);
      leads = to_theirs kind level s.page places end (leads_at s places end p);
      ends = ends;
    }

    twice_to : (page : ℕ) → EndsTwice fresh value starts page → TwoPaths heading Patterns marks kind level pages page
    unfolding into
    twice_to page t = (
      into page t.start t.places t.end t.path t.ends,
      into page t.other_start t.other_places t.other_end t.other_path t.other_ends,
      λ k. t.differ k.0 k.1,
    )

    module _ (e : Event) (is : attached_by heading Patterns marks e ≡ Some whole) where
      listed : (named : Bool) (page : ℕ) → In (page_list named) page → IsUnfresh fresh value starts named page
      listed named page i =
          elim (in_append (unfresh heading Patterns marks (pages_of (ends_of named))) (repeated (pages_of (all_ends whole))) page i) [
            | inl unfresh_one ↦
                (let f = from_filter (λ p. not (is_fresh heading Patterns marks p)) (pages_of (ends_of named)) page unfresh_one in
                let r = from_map (λ (end : End). end.page) (ends_of named) page f.0 in
                let k = from_ends named r.0 r.1 in
                inl (record {
                  start = k.start;
                  places = k.places;
                  end = r.0;
                  path = k.path;
                  ends = r.2;
                  unfresh = same_fresh page ∙ not-true (is_fresh heading Patterns marks page) f.1;
                  judged = k.judged;
                }))
            | inr twice ↦
                inr (twice_from page (b.repeated.sound marks e kind level pages is page
                (among_in page (repeated (pages_of (all_ends whole))) twice)))
          ]

      in_list : (named : Bool) (page : ℕ) → IsUnfresh fresh value starts named page → In (page_list named) page
      in_list named page (inl u) =
          in_left (unfresh heading Patterns marks (pages_of (ends_of named))) (repeated (pages_of (all_ends whole))) page
          (to_filter (λ p. not (is_fresh heading Patterns marks p)) (pages_of (ends_of named)) page
          (subst (In (pages_of (ends_of named))) u.ends
          (in_map (λ (end : End). end.page) (ends_of named) u.end (to_ends named u.start u.places u.end u.path u.judged)))
          (not_from_false (is_fresh heading Patterns marks page) (sym (same_fresh page) ∙ u.unfresh)))
      in_list named page (inr t) =
          in_right (unfresh heading Patterns marks (pages_of (ends_of named))) (repeated (pages_of (all_ends whole))) page
          (in_among page (repeated (pages_of (all_ends whole)))
          (b.repeated.complete marks kind level pages page (twice_to page t)))

      pub pages_judged : (named : Bool) → judged_ends e whole ≡ ends_of named → untracked_page heading Patterns marks e ≡ []
          → (o : Option ℕ) → LeastOf (IsUnfresh fresh value starts named) o → not_fresh heading Patterns marks e ≡ o
      pages_judged named judged tracked o f =
          simp (is, tracked, judged, append-nil)
          (least_is (IsUnfresh fresh value starts named) (page_list named) (listed named) (in_list named) o f)

      -- ---- places

      module _ (test : Kind → Desc → Bool) (leaves : OfLeaves test) where
        place_from : (place : ℕ) → In (attached_with test (events_of marks) whole) place → HasPlace fresh value starts test place
        place_from place i =
            let f = from_flat (places_with test kind (events_of marks)) (all_ends whole) place i in
            let r = from_ends false f.0 f.1 in
            let g = from_filter (λ p. test kind (desc_of kind f.0.level (value_of (events_of marks) p))) (places_in (events_of marks) f.0.page) place f.2 in
            record {
              start = r.start;
              places = r.places;
              end = f.0;
              path = r.path;
              inside = at_place heading h (b.notes_keep_the_events h) f.0.page place fit g.0;
              passes =
                  ap (λ (k : Kind). test k (desc_of k f.0.level (value place))) (st.of_start r.start r.path.is_start).0
                  ∙ (ap (λ (v : ℕ). test kind (desc_of kind f.0.level v)) (value_is place) ∙ g.1);
            }

        place_to : (place : ℕ) → HasPlace fresh value starts test place → In (attached_with test (events_of marks) whole) place
        place_to place p =
            to_flat (places_with test kind (events_of marks)) (all_ends whole) p.end place
            (to_ends false p.start p.places p.end p.path (λ k none. true≢false (sym k)))
            (to_filter (λ x. test kind (desc_of kind p.end.level (value_of (events_of marks) x))) (places_in (events_of marks) p.end.page) place
            (to_place heading h (b.notes_keep_the_events h) p.end.page place p.inside (λ z. true≢false (sym passes
            ∙ (ap (λ (v : ℕ). test kind (desc_of kind p.end.level v)) z ∙ leaves.invalid kind)))) passes)
          where
            passes : test kind (desc_of kind p.end.level (value_of (events_of marks) place)) ≡ true
            passes =
                ap (λ (v : ℕ). test kind (desc_of kind p.end.level v)) (sym (value_is place))
                ∙ (ap (λ (k : Kind). test k (desc_of k p.end.level (value place))) (sym (st.of_start p.start p.path.is_start).0) ∙ p.passes)

        pub places_judged : written_with heading Patterns marks test e ≡ None
            → (o : Option ℕ) → LeastOf (HasPlace fresh value starts test) o → made_with heading Patterns marks test e ≡ o
        places_judged none o f =
            simp (none, is, append-nil)
            (least_is (HasPlace fresh value starts test) (attached_with test (events_of marks) whole) place_from place_to o f)

      pub judging : (named : Bool) → judged_ends e whole ≡ ends_of named → untracked_page heading Patterns marks e ≡ []
          → ((test : Kind → Desc → Bool) → OfLeaves test → written_with heading Patterns marks test e ≡ None)
          → Judging fresh value starts heading h named e
      judging named judged tracked none = record {
        pages = pages_judged named judged tracked;
        contiguous = places_judged is_bad of_bad (none is_bad of_bad);
        global = places_judged is_user_global of_global (none is_user_global of_global);
      }
        where
          of_bad : OfLeaves is_bad
          of_bad = record { invalid = λ k. refl; table = λ k next ns. refl }

          of_global : OfLeaves is_user_global
          of_global = record { invalid = λ k. and-false _; table = λ k next ns. and-false _ }
