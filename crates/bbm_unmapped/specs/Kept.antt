-- What a column says of the tracked pages. Source: project's own choice.
use Rattle.std.specs.Prelude.{ℕ, Bool, false, nat_eq}
use Rattle.std.specs.Option.{option_map_or}
use Rattle.indexmap.specs.IndexMap.{IndexMap, get}
use Rattle.bbm_unmapped.specs.InOutputs.{in_outputs}
use Rattle.bbm_unmapped.specs.declared.leaves.Leaves.{Leaves}

module _ {S : Type 0} (pages : IndexMap ℕ Leaves S) where
  -- whether a page is free
  abbrev pub free_by : ℕ → Bool
  free_by page = option_map_or (λ leaves. leaves.free) (get nat_eq pages page) false

  -- whether a page lies within the bounds of the outputs of a table's leaves
  abbrev pub may_by : ℕ → ℕ → Bool
  may_by table page = option_map_or (λ leaves. in_outputs leaves.bounds page) (get nat_eq pages table) false
