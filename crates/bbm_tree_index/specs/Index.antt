-- What a tree index says of each page. Source: project's own choice.
use Rattle.std.specs.Prelude.{◌≡◌, ℕ, Bool, List, Option, is_some, unwrap_or, nat_eq}
use Rattle.indexmap.specs.IndexMap.{get, keys}
use Rattle.bbm_events.specs.Heading.{Heading}
use Rattle.bbm_rules.specs.Tree.{Node}
use Rattle.bbm_tree_index.specs.Nodes.{is_fresh_role, is_null_role, node_by}
use Rattle.bbm_tree_index.specs.declared.index.TreeIndex.{TreeIndex}
use Rattle.bbm_tree_index.specs.declared.role.Role.{Role}
use Rattle.bbm_tree_index.specs.declared.role.Role.TheVariants.{Untracked}

-- the header of the log
unfoldable pub heading_of : TreeIndex → Heading
heading_of index = index.header

-- the role of a page
unfoldable pub role_in : TreeIndex → ℕ → Role
role_in index page = unwrap_or (get nat_eq index.roles page) Untracked

-- the node of a page, None where it is in no tree
unfoldable pub node_in : TreeIndex → ℕ → Option Node
node_in index page = node_by (role_in index) (heading_of index) page

-- whether a page is fresh: it was tracked, and since then it was in no tree and wasn't declared null
unfoldable pub fresh_in : TreeIndex → ℕ → Bool
fresh_in index page = is_fresh_role (role_in index page)

-- whether a page is a null page
unfoldable pub null_in : TreeIndex → ℕ → Bool
null_in index page = is_null_role (role_in index page)

-- whether a page was ever tracked, and the pages that were, in the order of their numbers
unfoldable pub known_in : TreeIndex → ℕ → Bool
known_in index page = is_some (get nat_eq index.roles page)

unfoldable pub pages_in : TreeIndex → List ℕ
pages_in index = keys index.roles

-- each page has the role that it had
pub record SamePages (old new : TreeIndex) : Type 0 where
  pub node : (p : ℕ) → node_in new p ≡ node_in old p
  pub fresh : (p : ℕ) → fresh_in new p ≡ fresh_in old p
  pub null : (p : ℕ) → null_in new p ≡ null_in old p

-- the same pages were ever tracked, under the same header
pub record SameTracked (old new : TreeIndex) : Type 0 where
  pub known : (p : ℕ) → known_in new p ≡ known_in old p
  pub pages : pages_in new ≡ pages_in old
  pub heading : heading_of new ≡ heading_of old
