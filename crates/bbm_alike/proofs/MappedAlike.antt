-- The same pages are mapped where the same places hold the same in the same trees.
use Rattle.bbm_rules.proofs.Common.{◌≡◌, ℕ, false, ◌==◌, List, Contains, filter, Option, ◌∙◌, ap, any, eqb-true, from_filter}
use Rattle.bbm_rules.proofs.Common.{to_contains, option_map_or, Trust, Noted, events_of, page_of, Heading, Node, held_at}
use Rattle.bbm_rules.proofs.Common.{places_in, written_places}
use Rattle.bbm_rules.specs.Mapped.{is_mapped, maps, place_maps}
use Rattle.bbm_rules.specs.Tree.{tree}
use Rattle.bbm_alike.proofs.ListsAlike.{same_any}

module _ (heading : Heading) (one other : Trust) (h h' : List Noted)
    (places : written_places (events_of h) ≡ written_places (events_of h')) (trees : tree heading one h ≡ tree heading other h')
    (held : (n : Node) (place : ℕ) → Contains (tree heading one h) n → page_of place ≡ n.page
    → held_at heading one h n place ≡ held_at heading other h' n place) where
  same_place_maps : (n : Node) (page place : ℕ) → Contains (tree heading one h) n → page_of place ≡ n.page
      → place_maps heading one h n page place ≡ place_maps heading other h' n page place
  same_place_maps n page place there inside =
      ap (λ (o : Option ℕ). option_map_or (λ (value : ℕ). maps n.kind n.level value page) o false) (held n place there inside)

  same_page_maps : (n : Node) (page : ℕ) → Contains (tree heading one h) n
      → any (place_maps heading one h n page) (places_in (events_of h) n.page)
      ≡ any (place_maps heading other h' n page) (places_in (events_of h') n.page)
  same_page_maps n page there =
      same_any (place_maps heading one h n page) (place_maps heading other h' n page) (places_in (events_of h) n.page)
      (λ place i. let k = from_filter (λ (x : ℕ). page_of x == n.page) (written_places (events_of h)) place i in
      same_place_maps n page place there (eqb-true (page_of place) n.page k.1))
      ∙ ap (λ (written : List ℕ). any (place_maps heading other h' n page) (filter (λ (x : ℕ). page_of x == n.page) written)) places

  pub same_mapped : (page : ℕ) → is_mapped heading one h page ≡ is_mapped heading other h' page
  same_mapped page =
      same_any (λ (n : Node). any (place_maps heading one h n page) (places_in (events_of h) n.page))
      (λ (n : Node). any (place_maps heading other h' n page) (places_in (events_of h') n.page)) (tree heading one h)
      (λ n i. same_page_maps n page (to_contains (tree heading one h) n i))
      ∙ ap (λ (ns : List Node). any (λ (n : Node). any (place_maps heading other h' n page) (places_in (events_of h') n.page)) ns) trees
