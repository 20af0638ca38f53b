-- Worked cases: which values of a place a PE may still read after the events of a log.
use Rattle.bbm_rules.proofs.Common.{String, is_readable}
use Rattle.std.specs.Prelude.{◌≡◌, ℕ, List, [], ◌∷◌, Bool, true, false, Option, Some, refl}
use Rattle.bbm_rules.proofs.Judged.{after}

unfoldable pub readable_after : List String → ℕ → ℕ → ℕ → Option Bool
unfolding after
readable_after lines place p value = after lines (λ heading h. is_readable heading h place p value)

-- a value is written by PE 0 and cleared by PE 0
abbrev pub cleared : List String → List String
cleared lines =
    "bbmlog 1 hyp 2 1 1 1"
    ∷ "init 0 0x40000000"
    ∷ "root 0 el2 - 0x40000000"
    ∷ "w 0 0x40000008 0x80000701"
    ∷ "w 0 0x40000008 0x0"
    ∷ lines

-- Without a DSB the old value may still be read, by PE 0 too.
pub read_without_a_dsb : readable_after (cleared []) 0x40000008 0 0x80000701 ≡ Some true
unfolding readable_after
read_without_a_dsb = refl

-- A DSB of PE 0 for all publishes the clear to PE 1.
pub not_read_over_a_dsb : readable_after (cleared ("dsb 0 ish" ∷ [])) 0x40000008 1 0x80000701 ≡ Some false
unfolding readable_after
not_read_over_a_dsb = refl

-- A DSB of PE 1 publishes nothing that PE 0 wrote: not to PE 0.
pub read_over_another_pes_dsb : readable_after (cleared ("dsb 1 ish" ∷ [])) 0x40000008 0 0x80000701 ≡ Some true
unfolding readable_after
read_over_another_pes_dsb = refl

-- And not to PE 1.
pub read_over_its_own_dsb : readable_after (cleared ("dsb 1 ish" ∷ [])) 0x40000008 1 0x80000701 ≡ Some true
unfolding readable_after
read_over_its_own_dsb = refl

-- A local DSB of PE 0 publishes the clear to PE 0.
pub not_read_over_a_local_dsb : readable_after (cleared ("dsb 0 nsh" ∷ [])) 0x40000008 0 0x80000701 ≡ Some false
unfolding readable_after
not_read_over_a_local_dsb = refl

-- And not to PE 1.
pub read_over_a_local_dsb : readable_after (cleared ("dsb 0 nsh" ∷ [])) 0x40000008 1 0x80000701 ≡ Some true
unfolding readable_after
read_over_a_local_dsb = refl

-- The DSB comes before the clear.
pub read_over_an_earlier_dsb : readable_after (
    "bbmlog 1 hyp 2 1 1 1"
    ∷ "init 0 0x40000000"
    ∷ "root 0 el2 - 0x40000000"
    ∷ "w 0 0x40000008 0x80000701"
    ∷ "dsb 0 ish"
    ∷ "w 0 0x40000008 0x0"
    ∷ []) 0x40000008 1 0x80000701 ≡ Some true
unfolding readable_after
read_over_an_earlier_dsb = refl

-- The zeros of an init may be read until a value is published over them.
pub zero_read_before_the_first_value : readable_after (
    "bbmlog 1 hyp 2 1 1 1"
    ∷ "init 0 0x40001000"
    ∷ "w 0 0x40001008 0x80000701"
    ∷ []) 0x40001008 1 0x0 ≡ Some true
unfolding readable_after
zero_read_before_the_first_value = refl

-- Nothing older than the last init is read.
pub not_read_before_the_init : readable_after (
    "bbmlog 1 hyp 2 1 1 1"
    ∷ "init 0 0x40001000"
    ∷ "w 0 0x40001008 0x80000701"
    ∷ "init 0 0x40001000"
    ∷ []) 0x40001008 1 0x80000701 ≡ Some false
unfolding readable_after
not_read_before_the_init = refl
