-- The page below a place that holds a table.
-- Source: Arm ARM (DDI 0487), "VMSAv8-64 translation table walks".
use Rattle.std.specs.Prelude.{ℕ, Option, Some, None}
use Rattle.bbm_descriptor.specs.Descriptor.{desc_of}
use Rattle.bbm_descriptor.specs.declared.desc.Desc.{Desc}
use Rattle.bbm_descriptor.specs.declared.desc.Desc.TheVariants.{Table}
use Rattle.bbm_rules.specs.Prelude.{Kind}

-- the next page where the descriptor is a table
abbrev pub next_in : Desc → Option ℕ
next_in (Table next ns) = Some next
next_in _ = None

abbrev pub next_of : Kind → ℕ → ℕ → Option ℕ
next_of kind level value = next_in (desc_of kind level value)
