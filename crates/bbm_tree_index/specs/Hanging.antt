-- How tables of marks give pages their roles. Source: project's own choice.
use Rattle.std.specs.Prelude.{◌≡◌, ℕ, ◌<◌, ◌⊎◌, List, Option, Some, None, nat_eq, slice_get}
use Rattle.indexmap.specs.IndexMap.{IndexMap, get}
use Rattle.bbm_tree_index.specs.declared.mark.Mark.{Mark}
use Rattle.bbm_tree_index.specs.declared.role.Role.{Role}

-- the role of a page after a table gave its pages theirs
abbrev pub hung : Option Mark → Option Role → Option Role
hung None role = role
hung (Some mark) role = Some mark.role

module _ {S : Type 0} (tables : List (IndexMap ℕ Mark S)) where
  -- one of the first tables gave the page its role
  pub record Given (index page : ℕ) (role : Option Role) : Type 0 where
    pub level : ℕ
    pub below : level < index
    pub table : IndexMap ℕ Mark S
    pub at : slice_get tables level ≡ Some table
    pub mark : Mark
    pub has : get nat_eq table page ≡ Some mark
    pub is : role ≡ Some mark.role

  -- none of the first tables has the page
  abbrev pub Passed : ℕ → ℕ → Type 0
  Passed index page = (level : ℕ) (table : IndexMap ℕ Mark S) → level < index → slice_get tables level ≡ Some table
      → get nat_eq table page ≡ None

  abbrev pub Hung : ℕ → ℕ → Option Role → Option Role → Type 0
  Hung index page old new = Given index page new ⊎ (Passed index page × (new ≡ old))
