-- What the definitions say of two annotated histories is the same where that of which they are made is the same.
use Rattle.bbm_rules.proofs.Common.{◌≡◌, ℕ, zero, suc, ◌-◌, Bool, cond, ◌==◌, List, [], ◌∷◌, Option, Some, None}
use Rattle.bbm_rules.proofs.Common.{is_none, option_and_then, find, filter_map, flat_map, map, refl, ◌∙◌, ap, Attached}
use Rattle.bbm_rules.proofs.Common.{End, attached_by, attached_from, end_at, ends_below, Trust, Noted, events_of}
use Rattle.bbm_rules.proofs.Common.{is_fresh, page_of, Heading, Event, Root, Write, root_pages, start_of, Node, held_at}
use Rattle.bbm_rules.proofs.Common.{next_of, node_of, places_in, value_of, written_places}
use Rattle.bbm_rules.specs.Prelude.{Kind}
use Rattle.bbm_rules.specs.Tree.{tree}
use Rattle.bbm_alike.proofs.ListsAlike.{same_flat}
use Rattle.bbm_alike.proofs.SameThen.{same_then}

module _ (heading : Heading) (one other : Trust) (h h' : List Noted) where
  module _ (trees : tree heading one h ≡ tree heading other h') where
    pub same_node : (page : ℕ) → node_of heading one h page ≡ node_of heading other h' page
    same_node page = ap (λ (ns : List Node). find (λ n. n.page == page) ns) trees

  module _ (values : (place : ℕ) → value_of (events_of h) place ≡ value_of (events_of h') place)
      (places : written_places (events_of h) ≡ written_places (events_of h'))
      (fresh : (page : ℕ) → is_fresh heading one h page ≡ is_fresh heading other h' page) where
    -- the next pages of a page
    same_next : (kind : Kind) (level page : ℕ)
        → filter_map (λ place. next_of kind level (value_of (events_of h) place)) (places_in (events_of h) page)
        ≡ filter_map (λ place. next_of kind level (value_of (events_of h') place)) (places_in (events_of h') page)
    same_next kind level page = simp (values, places)

    pub same_ends : (kind : Kind) (left level page : ℕ)
        → ends_below heading one h kind left level page ≡ ends_below heading other h' kind left level page
    same_ends kind zero level page = refl
    same_ends kind (suc left) level page =
        ap (λ (b : Bool). cond b (flat_map (below heading one h) (nexts h)) []) (fresh page)
        ∙ ap (λ (ends : List End). cond (is_fresh heading other h' page) ends [])
        (same_flat (below heading one h) (below heading other h') (nexts h)
        (λ next there. ap (λ (ends : List End). end_at (suc level) next ∷ ends) (same_ends kind left (suc level) next))
        ∙ ap (λ (pages : List ℕ). flat_map (below heading other h') pages) (same_next kind level page))
      where
        below : Heading → Trust → List Noted → ℕ → List End
        below heading trust h next = end_at (suc level) next ∷ ends_below heading trust h kind left (suc level) next

        nexts : List Noted → List ℕ
        nexts h = filter_map (λ place. next_of kind level (value_of (events_of h) place)) (places_in (events_of h) page)

    pub same_attached : (kind : Kind) (level : ℕ) (pages : List ℕ)
        → attached_from heading one h kind level pages ≡ attached_from heading other h' kind level pages
    same_attached kind level pages =
        ap (λ (ends : List End). record { kind = kind; first = map (end_at level) pages; deeper = ends })
        (same_flat (ends_below heading one h kind (3 - level) level) (ends_below heading other h' kind (3 - level) level)
        pages (λ page there. same_ends kind (3 - level) level page))

    module _ (trees : tree heading one h ≡ tree heading other h')
        (held : (n : Node) (place : ℕ) → node_of heading one h (page_of place) ≡ Some n
        → held_at heading one h n place ≡ held_at heading other h' n place) where
      pub same_attached_by : (e : Event) → attached_by heading one h e ≡ attached_by heading other h' e
      same_attached_by (Write pe place value) =
          same_then (step heading one h) (step heading other h') (node_of heading one h (page_of place))
          (node_of heading other h' (page_of place)) (same_node trees (page_of place))
          (λ n found. same_then (λ next. Some (attached_from heading one h n.kind (suc n.level) (next ∷ [])))
          (λ next. Some (attached_from heading other h' n.kind (suc n.level) (next ∷ [])))
          (next_page n (held_at heading one h n place)) (next_page n (held_at heading other h' n place))
          (ap (next_page n) (held n place found))
          (λ next there. ap Some (same_attached n.kind (suc n.level) (next ∷ []))))
        where
          next_page : Node → Option ℕ → Option ℕ
          next_page n o = cond (is_none o) (next_of n.kind n.level value) None

          step : Heading → Trust → List Noted → Node → Option Attached
          step heading trust h n =
              option_and_then (λ next. Some (attached_from heading trust h n.kind (suc n.level) (next ∷ [])))
              (next_page n (held_at heading trust h n place))
      same_attached_by (Root pe kind lock page) =
          ap Some (same_attached kind (start_of heading.world kind) (root_pages heading.world kind page))
      same_attached_by e = refl
