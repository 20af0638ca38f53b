-- Listed pages, and nodes that are listed as they are.
use Rattle.bbm_unmapped.proofs.Common.{AttachedPage, HasListed, IsListed, LeafOver, PlaceMap, IsOver, listed_as}
use Rattle.bbm_rules.proofs.Common.{◌≡◌, ℕ, List, [], Contains, Some, Node, slice_get, slice_get_within, ap, ◌∙◌}
use Rattle.std.proofs.lemmas.Option.{get_or_from_slice_get, slice_get-get_or}

-- an element stands at an index
pub to_index : {X : Type 0} (xs : List X) (x : X) → Contains xs x → (k : ℕ) × (slice_get xs k ≡ Some x)
to_index xs x c = (c.0, slice_get-get_or xs c.0 x c.1 ∙ ap (λ y. Some y) c.2)

pub from_index : {X : Type 0} (xs : List X) (x : X) (k : ℕ) → slice_get xs k ≡ Some x → Contains xs x
from_index xs x k at = (k, slice_get_within xs k x at, get_or_from_slice_get xs k x x at)

-- a node that is listed so
abbrev pub node_as : AttachedPage → Node
node_as a = record { page = a.page; kind = a.standing.kind; level = a.standing.level; root = 0; base = 0; above = [] }

pub listed_page : (pages : List AttachedPage) (m : Node) (page : ℕ) → HasListed pages m → m.page ≡ page
    → IsListed pages page
listed_page pages m page has is = record { listed = listed_as m; has = has; is = is }

-- a leaf of a listed page
pub over_of : (map : PlaceMap) (pages : List AttachedPage) (a : AttachedPage) (page : ℕ) → Contains pages a
    → LeafOver map a page
    → IsOver map pages page
over_of map pages a page has leaf = record {
  node = node_as a;
  is_attached = has;
  place = leaf.place;
  inside = leaf.inside;
  maps_page = leaf.maps_page;
}

pub over_from : (map : PlaceMap) (pages : List AttachedPage) (page : ℕ) → IsOver map pages page
    → (a : AttachedPage) × Contains pages a × LeafOver map a page
over_from map pages page over = (
  listed_as over.node,
  over.is_attached,
  record { place = over.place; inside = over.inside; maps_page = over.maps_page },
)
