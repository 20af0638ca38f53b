-- Worked cases: idle ISBs, flushes and barriers beside those that aren't, and what is left of a log without its idle
-- events. The newest event stands first.
use Rattle.bbm_idle.proofs.Common.{◌≡◌, Bool, true, false, List, [], ◌∷◌, Option, Some, refl, idle_marks, without_idle}
use Rattle.bbm_rules.proofs.Common.{String}
use Rattle.bbm_rules.proofs.Judged.{after}
use Rattle.bbm_rules.specs.Phases.{phase_of}
use Rattle.bbm_idle.specs.Idle.{is_idle}
use Rattle.bbm_idle.proofs.CasesIdle.{marks}

-- The second ISB finds no register written since the first.
pub second_isb : marks (
    "bbmlog 1 hyp 2 1 1 1"
    ∷ "init 0 0x40000000"
    ∷ "root 0 el2 - 0x40000000"
    ∷ "msr 0 ttbr0_el2 0x40000000"
    ∷ "isb 1"
    ∷ "isb 0"
    ∷ "isb 0"
    ∷ []) ≡ Some (true ∷ false ∷ true ∷ false ∷ false ∷ false ∷ [])
unfolding marks
second_isb = refl

-- A flush before the clear is published adds nothing; the barrier behind it publishes the clear.
pub early_flush : marks (
    "bbmlog 1 hyp 2 1 1 1"
    ∷ "init 0 0x40000000"
    ∷ "root 0 el2 - 0x40000000"
    ∷ "w 0 0x40000008 0x80000701"
    ∷ "w 0 0x40000008 0x0"
    ∷ "tlbi 0 vae2is 0x40000"
    ∷ "dsb 0 ish"
    ∷ []) ≡ Some (false ∷ true ∷ false ∷ false ∷ false ∷ false ∷ [])
unfolding marks
early_flush = refl

-- A flush of one PE alone is needed there, and once.
pub own_flush : marks (
    "bbmlog 1 hyp 2 1 1 1"
    ∷ "init 0 0x40000000"
    ∷ "root 0 el2 - 0x40000000"
    ∷ "w 0 0x40000008 0x80000701"
    ∷ "w 0 0x40000008 0x0"
    ∷ "dsb 0 ishst"
    ∷ "tlbi 0 vae2 0x40000"
    ∷ "dsb 0 nsh"
    ∷ "tlbi 0 vae2 0x40000"
    ∷ "tlbi 1 vae2 0x40000"
    ∷ []) ≡ Some (false ∷ true ∷ false ∷ false ∷ false ∷ false ∷ false ∷ false ∷ false ∷ [])
unfolding marks
own_flush = refl

-- A flush of a tag that a root holds is needed, and so is the barrier that answers it, though no place changes its
-- phase.
pub flush_of_a_tag : marks (
    "bbmlog 1 hyp 2 1 1 1"
    ∷ "init 0 0x40000000"
    ∷ "root 0 el2 - 0x40000000"
    ∷ "msr 0 ttbr0_el2 0x40000000"
    ∷ "msr 0 ttbr0_el2 0x0"
    ∷ "isb 0"
    ∷ "tlbi 0 alle2is"
    ∷ "dsb 0 ish"
    ∷ "tlbi 0 alle2is"
    ∷ "dsb 0 ish"
    ∷ []) ≡ Some (true ∷ true ∷ false ∷ false ∷ false ∷ false ∷ false ∷ false ∷ false ∷ [])
unfolding marks
flush_of_a_tag = refl

-- And so is one of a tag that a root left when it was given up.
pub flush_of_a_left_tag : marks (
    "bbmlog 5 hyp 2 1 1 1 unflushed"
    ∷ "init 0 0x40000000"
    ∷ "root 0 el2 - 0x40000000"
    ∷ "msr 0 ttbr0_el2 0x40000000"
    ∷ "msr 0 ttbr0_el2 0x0"
    ∷ "isb 0"
    ∷ "unroot 0 0x40000000"
    ∷ "tlbi 0 alle2is"
    ∷ "dsb 0 ish"
    ∷ "tlbi 0 alle2is"
    ∷ "dsb 0 ish"
    ∷ []) ≡ Some (true ∷ true ∷ false ∷ false ∷ false ∷ false ∷ false ∷ false ∷ false ∷ false ∷ [])
unfolding marks
flush_of_a_left_tag = refl

-- In stage 2 the flush of the combined entries adds nothing before the place is half, and so the first one is idle.
pub second_step_first : marks (
    "bbmlog 1 hyp 2 1 1 1"
    ∷ "init 0 0x40002000"
    ∷ "root 0 s2 - 0x40002000"
    ∷ "msr 0 vttbr_el2 0x5000040002000"
    ∷ "isb 0"
    ∷ "w 0 0x40002008 0x800007fd"
    ∷ "w 0 0x40002008 0x0"
    ∷ "dsb 0 ishst"
    ∷ "tlbi 0 vmalle1is"
    ∷ "tlbi 0 ipas2e1is 0x40000"
    ∷ "dsb 0 ish"
    ∷ "tlbi 0 vmalle1is"
    ∷ "dsb 0 ish"
    ∷ []) ≡ Some (
    false ∷ false ∷ false ∷ false ∷ true ∷ false ∷ false ∷ false ∷ false ∷ false ∷ false ∷ false ∷ [])
unfolding marks
second_step_first = refl

-- whether each event that is left is idle by what is left before it
unfoldable pub marks_left : List String → Option (List Bool)
unfolding after phase_of is_idle
marks_left lines = after lines (λ heading h. idle_marks heading (without_idle heading h))

-- Four of the twelve events are left out, and none that is left is idle. A flush that repeats one which isn't answered yet
-- isn't idle.
pub left_of_a_log : marks_left (
    "bbmlog 1 hyp 2 1 1 1"
    ∷ "init 0 0x40000000"
    ∷ "root 0 el2 - 0x40000000"
    ∷ "w 0 0x40000008 0x80000701"
    ∷ "dsb 0 ishst"
    ∷ "dmb 0 ish"
    ∷ "w 0 0x40000008 0x0"
    ∷ "tlbi 0 vae2is 0x40000"
    ∷ "dsb 0 ishst"
    ∷ "tlbi 0 vae2is 0x40000"
    ∷ "tlbi 0 vae2is 0x40000"
    ∷ "dsb 0 ish"
    ∷ "dsb 0 ish"
    ∷ []) ≡ Some (false ∷ false ∷ false ∷ false ∷ false ∷ false ∷ false ∷ false ∷ [])
unfolding marks_left
left_of_a_log = refl
