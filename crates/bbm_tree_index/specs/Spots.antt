-- Where a page of a tree stands, by its role alone. Source: project's own choice.
use Rattle.std.specs.Prelude.{◌≡◌, ◌+◌, ◌*◌, ◌<◌, ◌≤◌, ◌^◌, Option, Some, None}
use Rattle.bbm_events.specs.Heading.{Heading}
use Rattle.bbm_rules.specs.Roots.{first_input_page, input_pages, start_of}
use Rattle.bbm_rules.specs.Tree.{Node}
use Rattle.bbm_tree_index.specs.declared.role.Role.{Role}
use Rattle.bbm_tree_index.specs.declared.role.Role.TheVariants.{RootPage, Hangs}
use Rattle.bbm_tree_index.specs.declared.spot.Spot.{Spot}

abbrev pub spot_with : Heading → Role → Option Spot
spot_with heading (RootPage kind first part) = Some (record {
  kind = kind;
  level = start_of heading.world kind;
  base = first_input_page heading.world kind + part * (512 * input_pages (start_of heading.world kind));
  first = first;
})
spot_with heading (Hangs parent kind level base first) =
    Some (record { kind = kind; level = level; base = base; first = first })
spot_with heading _ = None

-- it has a level, and its region lies below the end of the input pages
pub record Fits (s : Spot) : Type 0 where
  pub shallow : s.level < 4
  pub within : s.base + 512 * input_pages s.level ≤ 2 ^ 45

abbrev pub RoleFits : Heading → Role → Type 0
RoleFits heading role = (s : Spot) → spot_with heading role ≡ Some s → Fits s

-- the spot is that of the node
pub record StandsAt (s : Spot) (n : Node) : Type 0 where
  pub kind : n.kind ≡ s.kind
  pub level : n.level ≡ s.level
  pub base : n.base ≡ s.base
  pub root : n.root ≡ s.first
