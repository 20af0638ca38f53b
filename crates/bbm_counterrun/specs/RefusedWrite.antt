-- A write that the rule of break-before-make refuses, and what its place holds. A history is newest first.
-- Source: project's own choice.
use Rattle.std.specs.Prelude.{◌≡◌, ℕ, Bool, false, true, List, ◌∷◌, Option, Some, unwrap_or}
use Rattle.bbm_descriptor.specs.Descriptor.{desc_of}
use Rattle.bbm_rules.specs.Broken.{broken, keeps}
use Rattle.bbm_rules.specs.Claims.{Trust, Patterns}
use Rattle.bbm_rules.specs.Covers.{noted}
use Rattle.bbm_rules.specs.Lists.{◌>>=◌}
use Rattle.bbm_rules.specs.Notes.{Noted}
use Rattle.bbm_rules.specs.Places.{page_of}
use Rattle.bbm_rules.specs.Prelude.{Heading, Event, Write}
use Rattle.bbm_rules.specs.Tree.{Node, held_at, node_of}
use Rattle.bbm_rules.specs.declared.rule.Rule.TheVariants.{BreakBeforeMake}
use Rattle.bbm_tlb_machine.specs.Entry.{is_leaf}

-- the events of h keep the rules, and the write after them breaks this one
pub record IsRefused (heading : Heading) (h : List Event) (pe place value : ℕ) : Type 0 where
  pub kept : keeps heading Patterns h ≡ true
  pub refused : broken heading Patterns h (Write pe place value) ≡ Some (record { rule = BreakBeforeMake; at = place })

-- whether what the place of a page holds is a leaf, None where it holds nothing
abbrev pub leaf_in : Heading → Trust → List Noted → Node → ℕ → Option Bool
leaf_in heading trust h n place =
    held_at heading trust h n place >>= (λ value. Some (is_leaf (desc_of n.kind n.level value)))

abbrev pub leaf_among : Heading → Trust → List Noted → ℕ → Option Bool
leaf_among heading trust h place = node_of heading trust h (page_of place) >>= (λ n. leaf_in heading trust h n place)

-- whether the place holds a leaf
abbrev pub holds_leaf : Heading → List Event → ℕ → Bool
holds_leaf heading h place = unwrap_or (leaf_among heading Patterns (noted heading Patterns h) place) false

-- whether the last event is a write at a place that holds a leaf before it
abbrev pub ends_at_leaf : Heading → List Event → Bool
ends_at_leaf heading (Write pe place value ∷ h) = holds_leaf heading h place
ends_at_leaf heading _ = false
