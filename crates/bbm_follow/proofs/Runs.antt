-- The indices of steps.
use Rattle.bbm_rules.proofs.Common.{length-reverse, ◌≡◌, ℕ, suc, ◌<◌, ◌≤◌, Bool, true, false, List, [], ◌∷◌, length}
use Rattle.bbm_rules.proofs.Common.{reverse, Option, Some, None, Result, Ok, Err, refl, arith, if_so}
use Rattle.bbm_events.specs.Heading.{Heading}
use Rattle.bbm_tlb_machine.specs.declared.step.Step.{Step}
use Rattle.bbm_tlb_machine.specs.MachineRun.{State, follow_steps, next_in, or_index, step_to}
use Rattle.bbm_tlb_machine.specs.Safe.{earlier, fails_at, first_conflict}

at-index : (o : Option State) (n i : ℕ) → or_index o n ≡ Err i → i ≡ n
at-index None n i is = cc
at-index (Some s) n i is = cc

next-index : (heading : Heading) (r : Result State ℕ) (s : Step) (n i : ℕ) → ((j : ℕ) → r ≡ Err j → j < n) → next_in heading r s n ≡ Err i → i < suc n
next-index heading (Ok state) s n i below is =
    let at = at-index (step_to heading state s) n i is in
    omega (arith, at)
next-index heading (Err j) s n i below is =
    let same : j ≡ i = cc in
    let under = below j refl in
    omega (arith, same, under)

-- a step that is none is one of the run
bad-below : (heading : Heading) (steps : List Step) (i : ℕ) → follow_steps heading steps ≡ Err i → i < length steps
bad-below heading [] i is = cc
bad-below heading (s ∷ steps) i is = next-index heading (follow_steps heading steps) s (length steps) i (bad-below heading steps) is

first-index : (o : Option ℕ) (b : Bool) (n i : ℕ) → ((j : ℕ) → o ≡ Some j → j < n) → earlier o (if_so b n) ≡ Some i → i < suc n
first-index (Some j) b n i below is =
    let same : j ≡ i = cc in
    let under = below j refl in
    omega (arith, same, under)
first-index None true n i below is =
    let same : n ≡ i = cc in
    omega (arith, same)
first-index None false n i below is = cc

-- and so is that of a conflict
conflict-below : (heading : Heading) (steps : List Step) (i : ℕ) → first_conflict heading steps ≡ Some i → i < length steps
conflict-below heading [] i is = cc
conflict-below heading (s ∷ steps) i is =
    first-index (first_conflict heading steps) (fails_at heading (follow_steps heading steps) s) (length steps) i (conflict-below heading steps) is

-- the same by the steps as they are kept, the oldest first
pub bad_index : (heading : Heading) (steps : List Step) (i : ℕ) → length steps ≤ 2000 → follow_steps heading (reverse steps) ≡ Err i → i ≤ 2000
bad_index heading steps i few is =
    let below = bad-below heading (reverse steps) i is in
    let same = length-reverse steps in
    omega (arith, below, same, few)

pub conflict_index : (heading : Heading) (steps : List Step) (i : ℕ) → length steps ≤ 2000 → first_conflict heading (reverse steps) ≡ Some i → i ≤ 2000
conflict_index heading steps i few is =
    let below = conflict-below heading (reverse steps) i is in
    let same = length-reverse steps in
    omega (arith, below, same, few)
