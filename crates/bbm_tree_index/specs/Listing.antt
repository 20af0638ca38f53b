-- How the pages of a survey are listed, by their marks. Source: project's own choice.
use Rattle.std.specs.Prelude.{◌≡◌, ◌↔◌, ◌⊎◌, ℕ, ◌<◌, List, Option, Some, Contains, nat_eq, slice_get}
use Rattle.std.specs.Option.{option_map}
use Rattle.indexmap.specs.IndexMap.{IndexMap, get}
use Rattle.bbm_events.specs.Heading.{Heading}
use Rattle.bbm_tree_index.specs.Spots.{spot_with}
use Rattle.bbm_tree_index.specs.declared.mark.Mark.{Mark}
use Rattle.bbm_tree_index.specs.declared.role.Role.{Role}
use Rattle.bbm_tree_index.specs.declared.standing.AttachedPage.{AttachedPage}

-- a page with this role, and how it is read; None where it is in no tree
abbrev pub listed_by : Heading → ℕ → Role → Option AttachedPage
listed_by heading page role =
    option_map (λ s. record { page = page; standing = record { kind = s.kind; level = s.level } })
    (spot_with heading role)

-- a list comes to have these, too
abbrev pub Adds : (AttachedPage → Type 0) → List AttachedPage → List AttachedPage → Type 0
Adds Has old new = (a : AttachedPage) → Contains new a ↔ (Contains old a ⊎ Has a)

module _ {S : Type 0} (heading : Heading) where
  -- a page of the table, by its mark
  pub record ListedIn (table : IndexMap ℕ Mark S) (a : AttachedPage) : Type 0 where
    pub mark : Mark
    pub has : get nat_eq table a.page ≡ Some mark
    pub is : listed_by heading a.page mark.role ≡ Some a

  -- a page of one of the first tables
  pub record ListedAt (tables : List (IndexMap ℕ Mark S)) (index : ℕ) (a : AttachedPage) : Type 0 where
    pub level : ℕ
    pub below : level < index
    pub table : IndexMap ℕ Mark S
    pub at : slice_get tables level ≡ Some table
    pub listed : ListedIn table a
