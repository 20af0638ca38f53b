-- Conflict runs of a refused write, and which of them are plain. A log, a run and their parts are oldest first here,
-- but where it is said otherwise.
-- Source: project's own choice.
use Rattle.std.specs.Prelude.{◌≡◌, ℕ, zero, suc, Bool, true, false, ◌&&◌, nat_le, nat_lt, List, [], ◌∷◌}
use Rattle.std.specs.Prelude.{◌++◌, length, map, take, drop, reverse, Option, Some, None, Ok}
use Rattle.bbm_events.specs.declared.machine.MachineLine.TheVariants.{Start, Extend, Combine, Drop}
use Rattle.bbm_rules.specs.Lists.{by_number}
use Rattle.bbm_rules.specs.Prelude.{Kind, Heading, Event}
use Rattle.bbm_tlb_machine.specs.declared.step.Step.{Step}
use Rattle.bbm_tlb_machine.specs.declared.step.Step.TheVariants.{Machine, Event as Taken}
use Rattle.bbm_tlb_machine.specs.MachineRun.{IsRun, State, follow_steps}
use Rattle.bbm_tlb_machine.specs.Safe.{first_conflict, in_conflict}

-- Conflict run: a run over a log that ends with an event of it, and as the event comes some TLB keeps what it needs
-- gone. Steps and events are newest first.
pub record IsConflictRun (heading : Heading) (h : List Event) (e : Event) (steps : List Step) : Type 0 where
  pub older : List Step
  pub before : State
  pub last : steps ≡ Taken e ∷ older
  pub run : IsRun heading older before
  pub over : before.log ≡ h
  pub conflict : in_conflict heading before e ≡ true

-- ---- plain runs

-- a place and a value that was read there
pub record Read : Type 0 where
  pub place : ℕ
  pub value : ℕ

-- What a plain run is made of: how many events come before the start; its PE, kind, VMID or ASID, and what it reads;
-- what the extends read, one after the other; and how many events come before the combine, if there is one.
pub record Plan : Type 0 where
  pub starts : ℕ
  pub pe : ℕ
  pub kind : Kind
  pub number : ℕ
  pub first : Read
  pub rest : List Read
  pub combines : Option ℕ

abbrev pub reads_of : Plan → List Read
reads_of plan = plan.first ∷ plan.rest

-- how many entries are made before a combine
abbrev pub made_by : Plan → ℕ
made_by plan = length (reads_of plan)

-- an extend of each entry in its turn, from this number on
abbrev pub extends : ℕ → List Read → List Step
extends entry [] = []
extends entry (r ∷ rs) = Machine (Extend entry r.place r.value) ∷ extends (suc entry) rs

-- a drop of so many entries, from this number on
abbrev pub drops : ℕ → ℕ → List Step
drops entry zero = []
drops entry (suc n) = Machine (Drop entry) ∷ drops (suc entry) n

-- the walk: one start, then extends, each of the entry made last, then a drop of each entry but the last
abbrev pub walk_of : Plan → List Step
walk_of plan = Machine (Start plan.pe plan.kind plan.number plan.first.place plan.first.value)
    ∷ (extends 1 plan.rest ++ drops 1 (length plan.rest))

-- a combine of an entry, followed at once by its drop
abbrev pub combine_of : ℕ → List Step
combine_of entry = Machine (Combine entry) ∷ Machine (Drop entry) ∷ []

-- the events behind the walk, with the combine after so many of the log
abbrev pub behind : Plan → Option ℕ → List Event → List Step
behind plan None events = map Taken (drop plan.starts events)
behind plan (Some n) events =
    map Taken (drop plan.starts (take n events)) ++ combine_of (made_by plan) ++ map Taken (drop n events)

-- the run of a plan over a log
abbrev pub run_of : Plan → List Event → List Step
run_of plan events = map Taken (take plan.starts events) ++ walk_of plan ++ behind plan plan.combines events

-- whether the start comes after some event, the combine after the same or a later one, and both within so many events
abbrev pub combine_within : ℕ → ℕ → Option ℕ → Bool
combine_within starts count None = true
combine_within starts count (Some n) = nat_le starts n && nat_le n count

abbrev pub is_within : Plan → ℕ → Bool
is_within plan count = nat_lt 0 plan.starts && nat_le plan.starts count && combine_within plan.starts count plan.combines

-- Plain conflict run: the run of a plan over the events of h and then e, that is a conflict run. The walk and the
-- combine come before e. Here h is newest first.
pub record IsPlain (heading : Heading) (h : List Event) (e : Event) (plan : Plan) : Type 0 where
  pub within : is_within plan (length h) ≡ true
  pub conflicts : IsConflictRun heading h e (reverse (run_of plan (reverse (e ∷ h))))

-- ---- the order of plain runs

-- less by lists of reads: by the first in which they differ, place before value, and a list that ends before another
-- is less; where they are equal, by what comes next
abbrev pub by_reads : List Read → List Read → Bool → Bool
by_reads [] [] next = next
by_reads [] (s ∷ ss) next = true
by_reads (r ∷ rs) [] next = false
by_reads (r ∷ rs) (s ∷ ss) next = by_number r.place s.place (by_number r.value s.value (by_reads rs ss next))

-- less by the combine: none before any, and then the earlier
abbrev pub by_combine : Option ℕ → Option ℕ → Bool
by_combine None None = false
by_combine None (Some n) = true
by_combine (Some m) None = false
by_combine (Some m) (Some n) = nat_lt m n

-- Before: fewer events before the start; else the lesser PE; else the lesser VMID or ASID; else the lesser list of
-- reads; else without a combine, or with fewer events before it.
abbrev pub comes_before : Plan → Plan → Bool
comes_before one other =
    by_number one.starts other.starts (by_number one.pe other.pe (by_number one.number other.number
    (by_reads (reads_of one) (reads_of other) (by_combine one.combines other.combines))))

-- First: a plain conflict run, and none comes before it.
pub record IsFirst (heading : Heading) (h : List Event) (e : Event) (plan : Plan) : Type 0 where
  pub plain : IsPlain heading h e plan
  pub first : (other : Plan) → IsPlain heading h e other → comes_before other plan ≡ false

-- What is found: the run of the first plan; none where no conflict run is plain.
abbrev pub Finds : Heading → List Event → Event → Option (List Step) → Type 0
Finds heading h e None = (plan : Plan) → IsPlain heading h e plan → ⊥
Finds heading h e (Some steps) = (plan : Plan) × IsFirst heading h e plan × (steps ≡ run_of plan (reverse (e ∷ h)))

-- ---- what a printed run is

-- Ends in conflict: the steps can be followed, and the first at which a clause of a safe log fails is the last of them.
-- Steps are newest first.
pub record EndsInConflict (heading : Heading) (steps : List Step) : Type 0 where
  pub after : State
  pub followed : follow_steps heading steps ≡ Ok after
  pub older : ℕ
  pub count : length steps ≡ suc older
  pub first : first_conflict heading steps ≡ Some older
