-- What the roles of all pages say of the trees. A role stands for a page, and a table of roles is read as a function of
-- the page. Source: project's own choice.
use Rattle.std.specs.Prelude.{ℕ, suc, ◌+◌, ◌*◌, Bool, true, false, List, [], ◌∷◌, Option, Some, None}
use Rattle.bbm_events.specs.Heading.{Heading}
use Rattle.bbm_rules.specs.Places.{page_of}
use Rattle.bbm_rules.specs.Roots.{first_input_page, input_pages, start_of}
use Rattle.bbm_rules.specs.Tree.{Above, Node, region_of}
use Rattle.bbm_tree_index.specs.declared.role.Path.{Path}
use Rattle.bbm_tree_index.specs.declared.role.Role.{Role}
use Rattle.bbm_tree_index.specs.declared.role.Role.TheVariants.{Fresh, RootPage, Hangs, Gone, Null}

abbrev pub is_fresh_role : Role → Bool
is_fresh_role Fresh = true
is_fresh_role _ = false

abbrev pub is_null_role : Role → Bool
is_null_role Null = true
is_null_role _ = false

abbrev pub is_gone_role : Role → Bool
is_gone_role Gone = true
is_gone_role _ = false

module _ (roles : ℕ → Role) where
  -- the places above a page of this role, the nearest first: of a page that hangs at a place that place, and those
  -- above the page of the place. The number is the level of the page.
  abbrev pub above_by : ℕ → Role → List Above
  above_by (suc level) (Hangs parent _ _ _ _) =
      record { place = parent; level = level } ∷ above_by level (roles (page_of parent))
  above_by _ _ = []

  module _ (heading : Heading) where
    -- The node of a page with this role. Part j of a root begins at the input page of the j-th part.
    abbrev pub node_with : ℕ → Role → Option Node
    node_with page (RootPage kind first part) = Some (record {
      page = page;
      kind = kind;
      level = start_of heading.world kind;
      root = first;
      base = first_input_page heading.world kind + part * (512 * input_pages (start_of heading.world kind));
      above = [];
    })
    node_with page (Hangs parent kind level base first) = Some (record {
      page = page;
      kind = kind;
      level = level;
      root = first;
      base = base;
      above = above_by level (Hangs parent kind level base first);
    })
    node_with page _ = None

    -- the node of a page, None where it is in no tree
    abbrev pub node_by : ℕ → Option Node
    node_by page = node_with page (roles page)

-- what a node says of a place of its page
abbrev pub path_at : Node → ℕ → Path
path_at n place = record { kind = n.kind; level = n.level; region = region_of n place; first = n.root }
