-- What the core of a written value says. Source: project's own choice.
use Rattle.std.specs.Prelude.{ℕ, Bool, false, Option, Some, None}
use Rattle.bbm_descriptor.specs.declared.desc.Core.{Core}
use Rattle.bbm_descriptor.specs.declared.desc.Core.TheVariants.{Leaf}
use Rattle.bbm_tree_index.specs.HeldCores.{next_in}

-- whether it is a leaf with the Contiguous hint, and whether a leaf for every ASID
abbrev pub is_contiguous_core : Option Core → Bool
is_contiguous_core (Some (Leaf out attrs share global contiguous)) = contiguous
is_contiguous_core _ = false

abbrev pub is_global_core : Option Core → Bool
is_global_core (Some (Leaf out attrs share global contiguous)) = global
is_global_core _ = false

-- the next page that a place which held this attaches by a value of the second core
abbrev pub attached_next : Option Core → Option Core → Option ℕ
attached_next None new = next_in new
attached_next (Some held) new = None
