-- The steps of one place, newest first, and searches through them.
-- Source: project's own choice.
use Rattle.std.specs.Prelude.{ℕ, Bool, true, false, Option, Some, None, List, [], ◌∷◌, ◌&&◌, ◌||◌, ◌==◌, if◌then◌else◌}
use Rattle.bbm_descriptor.specs.declared.desc.Core.{Core}
use Rattle.bbm_lemmas.specs.ListWords.{same_flag}
use Rattle.bbm_barriers.specs.declared.Dsb.{Dsb}
use Rattle.bbm_barriers.specs.Options.{answers}
use Rattle.bbm_tlbi_scope.specs.declared.entry.Cover.{Cover}

-- A step: a write of the place by a PE, with the core of the value or None where it is invalid; a DSB of a PE; a TLBI
-- of a PE, with the PEs that it reaches, whether it is broadcast, and how far it covers the place at its issue.
pub data Step : Type 0 where
  Wrote : (pe : ℕ) (value : Option Core) → Step
  Barrier : (pe : ℕ) (dsb : Dsb) → Step
  Flush : (pe : ℕ) (reach : ℕ → Bool) (broadcast : Bool) (cover : Cover) → Step

-- the steps after the last valid write
abbrev pub since : List Step → List Step
since [] = []
since (Wrote pe (Some core) ∷ older) = []
since (step ∷ older) = step ∷ since older

-- its core
abbrev pub last_core : List Step → Option Core
last_core [] = None
last_core (Wrote pe (Some core) ∷ older) = Some core
last_core (step ∷ older) = last_core older

-- whether some step passes a test, which is given the older steps too
abbrev pub some : (Step → List Step → Bool) → List Step → Bool
some test [] = false
some test (step ∷ older) = test step older || some test older

abbrev pub is_write : Step → List Step → Bool
is_write (Wrote pe value) older = true
is_write _ older = false

abbrev pub writes : ℕ → Step → List Step → Bool
writes q (Wrote pe value) older = q == pe
writes q _ older = false

-- whether the step is a TLBI of the PE q, broadcast or not, that passes the test
abbrev pub issues : ℕ → Bool → (Step → List Step → Bool) → Step → List Step → Bool
issues q b test (Flush pe reach broadcast cover) older =
    pe == q && (same_flag broadcast b && test (Flush pe reach broadcast cover) older)
issues q b test _ older = false

-- Whether the step is a DSB that answers a TLBI before it that passes the test: one of its own PE, of a kind that the
-- DSB completes. Source: Arm ARM (DDI 0487), "TLB maintenance instructions", "Ordering and completion of TLB
-- maintenance instructions".
abbrev pub answers_one : (Step → List Step → Bool) → Step → List Step → Bool
answers_one test (Barrier q dsb) older =
    (answers dsb true && some (issues q true test) older) || (answers dsb false && some (issues q false test) older)
answers_one test _ older = false

-- whether a TLBI that passes the test was answered
abbrev pub answered : (Step → List Step → Bool) → List Step → Bool
answered test steps = some (answers_one test) steps

-- whether a TLBI of the PE q, broadcast or not, that passes the test still waits for its answer
abbrev pub still_waits : (Step → List Step → Bool) → ℕ → Bool → List Step → Bool
still_waits test q b [] = false
still_waits test q b (Wrote pe value ∷ older) = still_waits test q b older
still_waits test q b (Barrier pe dsb ∷ older) = if pe == q && answers dsb b then false else still_waits test q b older
still_waits test q b (Flush pe reach broadcast cover ∷ older) =
    issues q b test (Flush pe reach broadcast cover) older || still_waits test q b older
