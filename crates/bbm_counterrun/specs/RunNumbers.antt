-- The VMIDs and ASIDs under which a walk may be made. No public contract cites these words.
use Rattle.std.specs.Prelude.{ℕ, Option, Some, None, List, filter_map}
use Rattle.bbm_regimes.specs.declared.regime.Kind.TheVariants.{Ttbr1}
use Rattle.bbm_rules.specs.Prelude.{Kind, Heading, Event, Tag, El2Tag, Vmid, Asid, Ttbr1Tag}
use Rattle.bbm_rules.specs.Tags.{Reading, readings}
use Rattle.bbm_tlb_machine.specs.Step.{current_asids}

-- the number of a tag, 0 where it has none; None of the tag that goes with every ASID
abbrev pub number_of : Tag → Option ℕ
number_of El2Tag = Some 0
number_of (Vmid number) = Some number
number_of (Asid number) = Some number
number_of Ttbr1Tag = None

abbrev pub numbers_of : List Reading → List ℕ
numbers_of readings = filter_map (λ r. number_of r.tag) readings

-- The numbers that are tried for a walk of p through tables of this kind after these events: those of the tags that are
-- readable, in the order of their readings; and of the upper range, whose tag has none, the current ASIDs.
abbrev pub numbers_by : Heading → List Event → ℕ → Kind → List ℕ
numbers_by heading h p Ttbr1 = current_asids heading.world h p
numbers_by heading h p _ = numbers_of (readings heading h p)
