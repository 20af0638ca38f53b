-- Of the plain conflict runs with one start, PE and VMID or ASID, that with the least list of reads is one whose reads
-- are the least of the way to the place of the event. `law_least_reads` says so. A history is newest first.
-- Source: project's own choice.
use Rattle.std.specs.Prelude.{◌≡◌, ℕ, ◌<◌, Bool, true, List, ◌∷◌, Some}
use Rattle.bbm_rules.specs.Broken.{keeps}
use Rattle.bbm_rules.specs.Claims.{Patterns}
use Rattle.bbm_rules.specs.Covers.{noted}
use Rattle.bbm_rules.specs.Places.{page_of}
use Rattle.bbm_rules.specs.Prelude.{Heading, Event, Write}
use Rattle.bbm_rules.specs.Tree.{Node, node_of}
use Rattle.bbm_tlb_machine.specs.Safe.{IsLog}
use Rattle.bbm_counterrun.specs.Plans.{Plan, Read, by_reads, reads_of}
use Rattle.bbm_counterrun.specs.RefusedWrite.{holds_leaf}
use Rattle.bbm_counterrun.specs.Tested.{first_events, is_plain}
use Rattle.bbm_counterrun.specs.Ways.{least_reads, way_to}

-- the plan is of a PE of the header and of the kind of the place's tree; the plan with the least reads in place of its
-- own is plain too; and its own come before those in no list
pub record HasLeastReads (heading : Heading) (h : List Event) (e : Event) (place : ℕ) (plan : Plan) : Type 0 where
  pub is_pe : plan.pe < heading.pes
  pub node : Node
  pub node_is : node_of heading Patterns (noted heading Patterns h) (page_of place) ≡ Some node
  pub kind : plan.kind ≡ node.kind
  pub first : Read
  pub rest : List Read
  pub reads : least_reads heading (first_events plan.starts h) plan.pe (way_to heading h place) ≡ Some (first ∷ rest)
  pub plain : is_plain heading h e (record plan { first = first; rest = rest }) ≡ true
  pub least : (next : Bool) → by_reads (reads_of plan) (first ∷ rest) next ≡ true
      → (reads_of plan ≡ first ∷ rest) × (next ≡ true)

-- Over events that keep the rules, and a leaf at the place, each plan that is plain at a write has its least reads.
abbrev pub PlansHaveLeastReads : Heading → Type 0
PlansHaveLeastReads heading = (h : List Event) (pe place value : ℕ) (plan : Plan) → IsLog heading h
    → keeps heading Patterns h ≡ true → holds_leaf heading h place ≡ true
    → is_plain heading h (Write pe place value) plan ≡ true
    → HasLeastReads heading h (Write pe place value) place plan
