-- Why a register write is refused, and when it is taken. A history is newest first.
-- Source: project's own choice, where no other is named.
use Rattle.std.specs.Prelude.{◌≡◌, ◌<◌, ◌≤◌, ℕ, Bool, not, ◌==◌, ◌&&◌, ◌||◌, Option, Some, None}
use Rattle.std.specs.Prelude.{Result, Ok, Err, List, if◌then◌else◌}
use Rattle.std.specs.List.{list_any}
use Rattle.bbm_regimes.specs.declared.regime.Kind.{Kind}
use Rattle.bbm_regimes.specs.declared.regime.Reg.{Reg}
use Rattle.bbm_regimes.specs.declared.regime.Tag.{Tag}
use Rattle.bbm_regimes.specs.declared.regime.Which.TheVariants.{Values}
use Rattle.bbm_events.specs.Heading.{Heading}
use Rattle.bbm_events.specs.declared.event.Event.{Event}
use Rattle.bbm_rules.specs.Claims.{Patterns, same_tag}
use Rattle.bbm_rules.specs.Roots.{is_root}
use Rattle.bbm_rules.specs.Tags.{holds_tag, left_tag, readings, reads_for_some}
use Rattle.bbm_rules.specs.declared.rule.Rule.TheVariants.{TagConflict}
use Rattle.bbm_rules.specs.declared.step_fault.StepFault.{StepFault}
use Rattle.bbm_rules.specs.declared.step_fault.StepFault.TheVariants.{Broken, Limit, NoMemory}
use Rattle.bbm_roots.specs.LeastOf.{IsLeast, ReadingUpTo}
use Rattle.bbm_roots.specs.RootRegisters.{kind_of_reg, root_of}
use Rattle.bbm_roots.specs.declared.reading.Reading.{Reading}

-- The base of a value, where it is neither that of a declared root of the kind, nor a null page that counts.
abbrev pub unless_root : List Event → Kind → Option ℕ → Option ℕ
unless_root h kind None = None
unless_root h kind (Some base) = if is_root h kind base then None else Some base

abbrev pub missing_root : Heading → List Event → Reg → ℕ → Bool → Option ℕ
missing_root heading h reg value null = unless_root h (kind_of_reg reg) (root_of heading reg value null)

module _ (heading : Heading) (h : List Event) (p : ℕ) where
  -- whether the tag is readable at p for another root
  abbrev pub reads_other : Tag → ℕ → Bool
  reads_other tag root = list_any (λ r. same_tag r.tag tag && not (r.root == root)) (readings heading h p)

  -- Tag conflict: the root holds the tag, which is readable at p for another root, or it was given up and left the tag,
  -- which is readable at p. The history is the one with the register write.
  abbrev pub conflicts : Reading → Bool
  conflicts x = (reads_other x.tag x.root && holds_tag heading Patterns x.root x.tag h)
      || (reads_for_some heading h p x.tag && left_tag heading Patterns x.root x.tag h)

-- A register write whose value misses no root is taken where nothing conflicts, and the register has fewer than nine
-- readable values. The first of these that fails refuses it: the root with the least first page, of those in conflict.
module _ {A : Type 0} (conflict : Reading → Bool) (values : ℕ) where
  abbrev pub JudgesReadings : Result A StepFault → Type 0
  JudgesReadings (Ok _) = IsLeast ReadingUpTo conflict None × (values < 9)
  JudgesReadings (Err (Broken rule at)) =
      (rule ≡ TagConflict) × (tag : Tag) × IsLeast ReadingUpTo conflict (Some (record { tag = tag; root = at }))
  JudgesReadings (Err (Limit which)) = (which ≡ Values) × IsLeast ReadingUpTo conflict None × (9 ≤ values)
  JudgesReadings (Err NoMemory) = Unit {0}
