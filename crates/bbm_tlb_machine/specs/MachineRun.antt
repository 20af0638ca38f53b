-- Runs of the machine: the events of a log in their order, and between them what the TLBs do. Lists are newest first.
-- Source: project's own choice.
use Rattle.std.specs.Prelude.{◌≡◌, ℕ, suc, Bool, true, false, ◌&&◌, not, ◌==◌, List, [], ◌∷◌, length, Option}
use Rattle.std.specs.Prelude.{Some, None, Result, Ok, Err, filter, find, option_map, Contains}
use Rattle.bbm_events.specs.declared.machine.MachineLine.TheVariants.{Start, Extend, Combine, Share, Drop}
use Rattle.bbm_rules.specs.Lists.{◌>>=◌, any, if_so}
use Rattle.bbm_rules.specs.Prelude.{Heading, Event, Dsb}
use Rattle.bbm_rules.specs.Reach.{Issued, completes, unanswered}
use Rattle.bbm_rules.specs.Tags.{itself}
use Rattle.bbm_tlb_machine.specs.declared.step.Step.{Step}
use Rattle.bbm_tlb_machine.specs.declared.step.Step.TheVariants.{Machine, Event as Taken}
use Rattle.bbm_tlb_machine.specs.Entry.{Entry}
use Rattle.bbm_tlb_machine.specs.Step.{Extends, Starts, combined, extended, is_stage2, may_extend, may_share}
use Rattle.bbm_tlb_machine.specs.Step.{may_start, must_go, shared, started}

-- an entry that some TLB keeps, with its number: entries are numbered in the order in which they are made, from 1
pub record Living : Type 0 where
  pub number : ℕ
  pub entry : Entry

-- the state: the events taken, the entries that the TLBs keep, and how many were made
pub record State : Type 0 where
  pub log : List Event
  pub living : List Living
  pub made : ℕ

-- at the start no event was taken, and the TLBs are empty
abbrev pub at_start : State
at_start = record { log = []; living = []; made = 0 }

-- the entry with this number, None where there is none or it was dropped
abbrev pub entry_at : State → ℕ → Option Entry
entry_at s number = option_map (λ l. l.entry) (find (λ l. l.number == number) s.living)

-- the state with an entry more, with one less, and after an event
abbrev pub with_entry : State → Entry → State
with_entry s x = record s { living = record { number = suc s.made; entry = x } ∷ s.living; made = suc s.made }

abbrev pub without : State → ℕ → State
without s number = record s { living = filter (λ l. not (l.number == number)) s.living }

abbrev pub after_event : State → Event → State
after_event s e = record s { log = e ∷ s.log }

-- the state, or the index of the step that leads to none
abbrev pub or_index : Option State → ℕ → Result State ℕ
or_index None i = Err i
or_index (Some s) i = Ok s

module _ (heading : Heading) where
  -- An event may be taken where, if it is a DSB, no entry is left that a TLBI which it answers must have taken.
  -- Source: Arm ARM (DDI 0487), "TLB maintenance instructions", "Ordering and completion of TLB maintenance
  -- instructions".
  abbrev pub LeavesNone : State → Event → Type 0
  LeavesNone s (Dsb q dsb) = (t : Issued Event) → Contains (unanswered itself q s.log) t → completes dsb t.tlbi ≡ true
      → (l : Living) → Contains s.living l → must_go heading t l.entry ≡ false
  LeavesNone s _ = Unit {0}

  -- Step: the step leads from one state to another.
  abbrev pub Leads : State → Step → State → Type 0
  Leads s (Machine (Start p kind number place value)) next =
      Starts heading s.log (started heading (length s.log) p kind number place value) number
      × (next ≡ with_entry s (started heading (length s.log) p kind number place value))
  Leads s (Machine (Extend number place value)) next = (x : Entry) × (entry_at s number ≡ Some x)
      × Extends heading s.log x place value × (next ≡ with_entry s (extended x place value))
  Leads s (Machine (Combine number)) next = (x : Entry) × (entry_at s number ≡ Some x)
      × (is_stage2 x.kind ≡ true) × (next ≡ with_entry s (combined (length s.log) x))
  Leads s (Machine (Share number p)) next = (x : Entry) × (entry_at s number ≡ Some x)
      × (may_share heading p ≡ true) × (next ≡ with_entry s (shared x p))
  Leads s (Machine (Drop number)) next = (x : Entry) × (entry_at s number ≡ Some x) × (next ≡ without s number)
  Leads s (Taken e) next = LeavesNone s e × (next ≡ after_event s e)

  -- Run: the steps lead from the start to the state, one after the other.
  abbrev pub IsRun : List Step → State → Type 0
  IsRun [] s = s ≡ at_start
  IsRun (step ∷ steps) s = (before : State) × IsRun steps before × Leads before step s

  -- The same, computed. `law_run` says so.

  abbrev pub leaves_some : State → Event → Bool
  leaves_some s (Dsb q dsb) =
      any (λ t. completes dsb t.tlbi && any (λ l. must_go heading t l.entry) s.living) (unanswered itself q s.log)
  leaves_some s _ = false

  abbrev pub step_to : State → Step → Option State
  step_to s (Machine (Start p kind number place value)) =
      if_so (may_start heading s.log (started heading (length s.log) p kind number place value) number)
      (with_entry s (started heading (length s.log) p kind number place value))
  step_to s (Machine (Extend number place value)) = do
    x ← entry_at s number
    if_so (may_extend heading s.log x place value) (with_entry s (extended x place value))
  step_to s (Machine (Combine number)) = do
    x ← entry_at s number
    if_so (is_stage2 x.kind) (with_entry s (combined (length s.log) x))
  step_to s (Machine (Share number p)) = do
    x ← entry_at s number
    if_so (may_share heading p) (with_entry s (shared x p))
  step_to s (Machine (Drop number)) = do
    x ← entry_at s number
    Some (without s number)
  step_to s (Taken e) = if_so (not (leaves_some s e)) (after_event s e)

  -- the state after the steps, or the index of the first step, counted from 0, that is none
  abbrev pub next_in : Result State ℕ → Step → ℕ → Result State ℕ
  next_in (Ok s) step i = or_index (step_to s step) i
  next_in (Err j) step i = Err j

  abbrev pub follow_steps : List Step → Result State ℕ
  follow_steps [] = Ok at_start
  follow_steps (step ∷ steps) = next_in (follow_steps steps) step (length steps)
