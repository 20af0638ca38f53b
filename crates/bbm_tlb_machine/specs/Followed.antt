-- What `follow` has where it stands in a run.
use Rattle.std.specs.Prelude.{◌≡◌, ℕ, Bool, true, false, ◌==◌, List, Option, None, Ok, Err, length, find, option_map}
use Rattle.bbm_events.specs.declared.machine.MachineLine.{MachineLine}
use Rattle.bbm_events.specs.declared.machine.MachineLine.TheVariants.{Start, Extend, Combine, Share, Drop}
use Rattle.bbm_rules.specs.Lists.{◌>>=◌, if_so}
use Rattle.bbm_rules.specs.Prelude.{Heading, Event}
use Rattle.bbm_tlb_machine.specs.declared.step.Step.{Step}
use Rattle.bbm_tlb_machine.specs.Entry.{Entry}
use Rattle.bbm_tlb_machine.specs.MachinePendings.{IsPending, Pending}
use Rattle.bbm_tlb_machine.specs.MachineRun.{Living, State, follow_steps}
use Rattle.bbm_tlb_machine.specs.Safe.{first_conflict}
use Rattle.bbm_tlb_machine.specs.Step.{combined, extended, is_stage2, may_extend, may_share, may_start, shared, started}

-- the state, the TLBIs that are unanswered in it, and the index of the first step at which a clause of a safe log
-- failed
pub record Followed : Type 0 where
  pub state : State
  pub pending : List Pending
  pub conflict : Option ℕ

-- It has followed these steps, the newest first: they are a run to its state, and its conflict is their first one.
pub record Follows (heading : Heading) (steps : List Step) (f : Followed) : Type 0 where
  pub run : follow_steps heading steps ≡ Ok f.state
  pub unanswered : IsPending heading f.state.log f.pending
  pub conflict : first_conflict heading steps ≡ f.conflict

-- what is so where the newest step, of this index, could be followed, and where not
abbrev pub GoesOn : Heading → List Step → ℕ → Followed → Bool → Type 0
GoesOn heading steps i f true = Follows heading steps f
GoesOn heading steps i f false = follow_steps heading steps ≡ Err i

-- the entry with this number, and the entry that a line makes, None where it makes none
abbrev pub found : List Living → ℕ → Option Entry
found living number = option_map (λ l. l.entry) (find (λ l. l.number == number) living)

abbrev pub entry_made : Heading → List Event → List Living → MachineLine → Option Entry
entry_made heading h living (Start p kind number place value) =
    if_so (may_start heading h (started heading (length h) p kind number place value) number)
    (started heading (length h) p kind number place value)
entry_made heading h living (Extend number place value) =
    found living number >>= (λ x. if_so (may_extend heading h x place value) (extended x place value))
entry_made heading h living (Combine number) =
    found living number >>= (λ x. if_so (is_stage2 x.kind) (combined (length h) x))
entry_made heading h living (Share number p) =
    found living number >>= (λ x. if_so (may_share heading p) (shared x p))
entry_made heading h living (Drop number) = None
