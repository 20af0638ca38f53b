-- Worked cases: how far two PEs are after steps of one place.
use Rattle.bbm_type_tests.proofs.Common.{ℕ, true, false, Some, None, List, [], ◌∷◌, refl, Inner, Non, All, Stores}
use Rattle.bbm_type_tests.proofs.Common.{Cover}
use Rattle.std.specs.Prelude.{◌==◌, is_none, reverse, if◌then◌else◌}
use Rattle.bbm_descriptor.specs.declared.desc.Core.TheVariants as core
use Rattle.bbm_tlbi_scope.specs.declared.entry.Cover.TheVariants.{Half, Second, Full}
use Rattle.bbm_entry_state.specs.EntrySteps.{Step, Wrote, Barrier, Flush, since, some, is_write}
use Rattle.bbm_entry_state.specs.EntryPatterns.{seen, half, cleansed, held}
use Rattle.bbm_type_tests.proofs.Rows.{Gives}

pub data At : Type 0 where
  IsClean : At
  IsLive : At
  IsBroken : At
  IsSeen : At
  IsHalf : At
  IsCleansed : At

-- what the steps since the last valid write, the newest first, show of a PE in a log with two
abbrev pub far : ℕ → List Step → At
far p steps =
    if cleansed 2 p steps then IsCleansed
    else (if half 2 p steps then IsHalf
    else (if seen 2 p steps then IsSeen
    else (if some is_write steps then IsBroken else IsLive)))

-- the same of all steps, the oldest first, at PE 0 and at PE 1
abbrev pub after : List Step → At × At
after steps =
    let newest : List Step = reverse steps in
    if is_none (held 2 newest) then (IsClean, IsClean) else (far 0 (since newest), far 1 (since newest))

-- PE 0 makes the place, breaks it, has a DSB that publishes, one that answers, or one of its own; and so does PE 1
abbrev pub make : Step
make = Wrote 0 (Some (core.Leaf 0x40000000 0 3 true false))

abbrev pub break : Step
break = Wrote 0 None

abbrev pub publish : ℕ → Step
publish pe = Barrier pe (record { domain = Inner; types = Stores })

abbrev pub answer : ℕ → Step
answer pe = Barrier pe (record { domain = Inner; types = All })

abbrev pub own : Step
own = Barrier 0 (record { domain = Non; types = All })

-- it issues a broadcast TLBI, or one of its own TLB, that covers the place so far
abbrev pub flush : Cover → Step
flush cover = Flush 0 (λ p. true) true cover

abbrev pub local : Step
local = Flush 0 (λ p. p == 0) false Full

pub steps : Gives after (
    ([], (IsClean, IsClean))
    ∷ (break ∷ [], (IsClean, IsClean))
    ∷ (make ∷ [], (IsLive, IsLive))
    ∷ (make ∷ break ∷ [], (IsBroken, IsBroken))
    ∷ (make ∷ break ∷ publish 0 ∷ [], (IsSeen, IsSeen))
    ∷ (make ∷ break ∷ own ∷ [], (IsSeen, IsBroken))
    ∷ (make ∷ publish 0 ∷ break ∷ flush Full ∷ [], (IsBroken, IsBroken))
    ∷ (make ∷ break ∷ publish 0 ∷ flush Full ∷ [], (IsSeen, IsSeen))
    ∷ (make ∷ break ∷ publish 0 ∷ flush Full ∷ publish 0 ∷ [], (IsSeen, IsSeen))
    ∷ (make ∷ break ∷ publish 0 ∷ flush Full ∷ answer 0 ∷ [], (IsClean, IsClean))
    ∷ (make ∷ break ∷ flush Full ∷ answer 0 ∷ [], (IsSeen, IsSeen))
    -- which DSB answers
    ∷ (make ∷ break ∷ publish 0 ∷ flush Full ∷ own ∷ [], (IsSeen, IsSeen))
    ∷ (make ∷ break ∷ publish 0 ∷ flush Full ∷ answer 1 ∷ [], (IsSeen, IsSeen))
    ∷ (make ∷ break ∷ publish 0 ∷ local ∷ own ∷ [], (IsCleansed, IsSeen))
    ∷ (make ∷ break ∷ publish 1 ∷ flush Full ∷ [], (IsBroken, IsBroken))
    ∷ (make ∷ break ∷ publish 0 ∷ flush Full ∷ make ∷ break ∷ answer 0 ∷ [], (IsSeen, IsSeen))
    -- two steps
    ∷ (make ∷ break ∷ publish 0 ∷ flush Half ∷ answer 0 ∷ [], (IsHalf, IsHalf))
    ∷ (make ∷ break ∷ publish 0 ∷ flush Half ∷ answer 0 ∷ flush Second ∷ answer 0 ∷ [], (IsClean, IsClean))
    ∷ (make ∷ break ∷ publish 0 ∷ flush Half ∷ flush Second ∷ answer 0 ∷ [], (IsHalf, IsHalf))
    ∷ (make ∷ break ∷ publish 0 ∷ flush Second ∷ answer 0 ∷ flush Half ∷ answer 0 ∷ [], (IsHalf, IsHalf))
    ∷ (
      make ∷ break ∷ publish 0 ∷ flush Half ∷ answer 0 ∷ make ∷ break ∷ publish 0 ∷ flush Second ∷ answer 0 ∷ [],
      (IsSeen, IsSeen),
    )
    ∷ [])
steps = refl
