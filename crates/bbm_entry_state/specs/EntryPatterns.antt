-- What the steps since the last valid write of a place show of a PE p, in a log with n PEs. Each search goes back
-- through the steps, and goes on in those before the step that it found; so the order of the steps is that of the
-- nesting.
use Rattle.std.specs.Prelude.{ℕ, Bool, false, Option, None, List, ◌&&◌, ◌||◌, if◌then◌else◌}
use Rattle.bbm_lemmas.specs.EveryPe.{every_pe}
use Rattle.bbm_descriptor.specs.declared.desc.Core.{Core}
use Rattle.bbm_barriers.specs.Options.{publishes}
use Rattle.bbm_tlbi_scope.specs.declared.entry.Cover.{Cover}
use Rattle.bbm_tlbi_scope.specs.declared.entry.Cover.TheVariants.{None as NoCover, Half, Second, Full}
use Rattle.bbm_tlbi_scope.specs.SameCover.{same_cover}
use Rattle.bbm_entry_state.specs.EntrySteps.{Step, Barrier, Flush, since, last_core, some, writes, answered}

-- whether the step is a DSB that publishes to p a write that came before it
abbrev pub publishes_write : ℕ → ℕ → Step → List Step → Bool
publishes_write n p (Barrier q dsb) before = publishes dsb q n p && some (writes q) before
publishes_write n p _ before = false

-- Seen: a write of the place is published to p. Source: Arm ARM (DDI 0487), "Using break-before-make when updating
-- translation table entries".
abbrev pub seen : ℕ → ℕ → List Step → Bool
seen n p steps = some (publishes_write n p) steps

-- whether the step is a TLBI that reaches p and covers the place so far, and the test holds of what came before it
abbrev pub flushes : (List Step → Bool) → Cover → ℕ → Step → List Step → Bool
flushes earned c p (Flush pe reach broadcast cover) before = reach p && (same_cover c cover && earned before)
flushes earned c p _ before = false

-- Half: a TLBI that reaches p and covers the place half was issued after a publication, and was answered.
-- Source: Arm ARM (DDI 0487), "TLB maintenance instructions".
abbrev pub half : ℕ → ℕ → List Step → Bool
half n p steps = answered (flushes (seen n p) Half p) steps

-- Cleansed: a TLBI that reaches p and covers the place in full was issued after a publication, and was answered; or
-- one that covers the rest was issued when the place was half, and was answered.
-- Source: Arm ARM (DDI 0487), "Using break-before-make when updating translation table entries", and "TLB
-- maintenance instructions".
abbrev pub cleansed : ℕ → ℕ → List Step → Bool
cleansed n p steps = answered (flushes (seen n p) Full p) steps || answered (flushes (half n p) Second p) steps

-- what a TLBI with this cover has to find before it
abbrev pub earned : ℕ → Cover → ℕ → List Step → Bool
earned n NoCover p before = false
earned n Half p before = seen n p before
earned n Second p before = half n p before
earned n Full p before = seen n p before

-- The core that some TLB may still keep: that of the last valid write, unless every PE is cleansed of it.
abbrev pub held : ℕ → List Step → Option Core
held n steps = if every_pe n (λ p. cleansed n p (since steps)) then None else last_core steps
