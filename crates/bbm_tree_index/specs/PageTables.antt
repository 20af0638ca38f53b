-- Tables from pages to their roles or marks. Source: project's own choice.
use Rattle.std.specs.Prelude.{◌≡◌, ℕ, ◌<◌, ◌%◌, ◌^◌, true, is_some, nat_eq, unwrap_or}
use Rattle.indexmap.specs.IndexMap.{IndexMap, get, index_map_len, keys}
use Rattle.bbm_tree_index.specs.declared.role.Role.{Role}
use Rattle.bbm_tree_index.specs.declared.role.Role.TheVariants.{Untracked}

-- a table of roles as a function
abbrev pub roles_of : {S : Type 0} → IndexMap ℕ Role S → ℕ → Role
roles_of table page = unwrap_or (get nat_eq table page) Untracked

module _ {V S : Type 0} where
  -- its keys are pages
  abbrev pub HasPages : IndexMap ℕ V S → Type 0
  HasPages table = (p : ℕ) → is_some (get nat_eq table p) ≡ true → (p < 2 ^ 48) × (p % 4096 ≡ 0)

  -- the two have the same keys, in the same order
  pub record SameKeys (old new : IndexMap ℕ V S) : Type 0 where
    pub known : (p : ℕ) → is_some (get nat_eq new p) ≡ is_some (get nat_eq old p)
    pub keys : keys new ≡ keys old
    pub len : index_map_len new ≡ index_map_len old
