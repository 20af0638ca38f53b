-- The current ASIDs by the register that names them.
use Rattle.std.specs.Prelude.{ℕ, List, [], map, Option, Some, None}
use Rattle.bbm_rules.specs.Prelude.{Reg, Event}
use Rattle.bbm_rules.specs.RegisterValues.{register_values, tag_number}

abbrev pub asids_by : Option Reg → List Event → ℕ → List ℕ
asids_by None h p = []
asids_by (Some reg) h p = map tag_number (register_values h p reg)
