-- Worked cases: how far a place has come, at each PE, after the events of a log; and how many places are on the way.
use Rattle.bbm_rules.proofs.Common.{String}
use Rattle.std.specs.Prelude.{◌≡◌, ℕ, List, [], ◌∷◌, Option, Some, refl}
use Rattle.bbm_rules.specs.declared.phase.Phase.{Phase}
use Rattle.bbm_rules.specs.declared.phase.Phase.TheVariants.{Clean, Live, Broken, Seen, Half, Cleansed}
use Rattle.bbm_rules.specs.Claims.{Patterns}
use Rattle.bbm_rules.specs.Phases.{phase_of, restless_of}
use Rattle.bbm_rules.proofs.Judged.{after}

unfoldable pub phase_after : List String → ℕ → ℕ → Option Phase
unfolding after phase_of
phase_after lines place p = after lines (λ heading h. phase_of heading Patterns h place p)

-- a block of an EL2 tree, made
abbrev pub made : List String → List String
made lines =
    "bbmlog 1 hyp 2 1 1 1"
    ∷ "init 0 0x40000000"
    ∷ "root 0 el2 - 0x40000000"
    ∷ "w 0 0x40000008 0x80000701"
    ∷ lines

-- and cleared
abbrev pub cleared : List String → List String
cleared lines = made ("w 0 0x40000008 0x0" ∷ lines)

-- A valid value is live.
pub phase_live : phase_after (made []) 0x40000008 0 ≡ Some Live
unfolding phase_after
phase_live = refl

-- It is live again after a new make, whatever was flushed before.
pub phase_live_after_a_new_make :
    phase_after (cleared ("dsb 0 ishst" ∷ "tlbi 0 alle2" ∷ "dsb 0 nsh" ∷ "w 0 0x40000008 0x80000701" ∷ [])) 0x40000008 0 ≡ Some Live
unfolding phase_after
phase_live_after_a_new_make = refl

-- A place that holds nothing is clean.
pub phase_clean_where_nothing_is_held : phase_after (made []) 0x40000010 0 ≡ Some Clean
unfolding phase_after
phase_clean_where_nothing_is_held = refl

-- So is a place of a page that is in no tree.
pub phase_clean_in_no_tree :
    phase_after ("bbmlog 1 hyp 2 1 1 1" ∷ "init 0 0x40001000" ∷ "w 0 0x40001008 0x80000701" ∷ []) 0x40001008 0 ≡ Some Clean
unfolding phase_after
phase_clean_in_no_tree = refl

-- A cleared place is broken, until the clear is published.
pub phase_broken : phase_after (cleared []) 0x40000008 0 ≡ Some Broken
unfolding phase_after
phase_broken = refl

-- A local DSB publishes the clear to its own PE.
pub phase_seen_here_only : phase_after (cleared ("dsb 0 nshst" ∷ [])) 0x40000008 0 ≡ Some Seen
unfolding phase_after
phase_seen_here_only = refl

-- And to no other.
pub phase_broken_at_the_other_pe : phase_after (cleared ("dsb 0 nshst" ∷ [])) 0x40000008 1 ≡ Some Broken
unfolding phase_after
phase_broken_at_the_other_pe = refl

-- A flush that comes before the publication brings the place no further than seen, at PE 0.
pub phase_tlbi_before_publication :
    phase_after (cleared ("tlbi 0 vae2is 0x40000" ∷ "dsb 0 ish" ∷ [])) 0x40000008 0 ≡ Some Seen
unfolding phase_after
phase_tlbi_before_publication = refl

-- And at PE 1.
pub phase_tlbi_before_publication_at_the_other_pe :
    phase_after (cleared ("tlbi 0 vae2is 0x40000" ∷ "dsb 0 ish" ∷ [])) 0x40000008 1 ≡ Some Seen
unfolding phase_after
phase_tlbi_before_publication_at_the_other_pe = refl

-- After a local flush the place is cleansed at its PE.
pub phase_cleansed_here_only :
    phase_after (cleared ("dsb 0 ishst" ∷ "tlbi 0 alle2" ∷ "dsb 0 nsh" ∷ [])) 0x40000008 0 ≡ Some Cleansed
unfolding phase_after
phase_cleansed_here_only = refl

-- At the other PE it is seen.
pub phase_seen_at_the_other_pe :
    phase_after (cleared ("dsb 0 ishst" ∷ "tlbi 0 alle2" ∷ "dsb 0 nsh" ∷ [])) 0x40000008 1 ≡ Some Seen
unfolding phase_after
phase_seen_at_the_other_pe = refl

-- After a broadcast flush it is cleansed at every PE, so nothing is held there any more.
pub phase_clean_after_the_flush :
    phase_after (cleared ("dsb 0 ishst" ∷ "tlbi 0 vae2is 0x40000" ∷ "dsb 0 ish" ∷ [])) 0x40000008 0 ≡ Some Clean
unfolding phase_after
phase_clean_after_the_flush = refl

-- a block of a stage 2 tree, made, cleared and published
abbrev pub cleared_at_stage2 : List String → List String
cleared_at_stage2 lines =
    "bbmlog 1 hyp 2 1 1 1"
    ∷ "init 0 0x40002000"
    ∷ "root 0 s2 - 0x40002000"
    ∷ "msr 0 vttbr_el2 0x5000040002000"
    ∷ "isb 0"
    ∷ "w 0 0x40002008 0x800007fd"
    ∷ "w 0 0x40002008 0x0"
    ∷ "dsb 0 ishst"
    ∷ lines

-- The first of the two flushes, answered, brings the place to half.
pub phase_half : phase_after (cleared_at_stage2 ("tlbi 0 ipas2e1is 0x40000" ∷ "dsb 0 ish" ∷ [])) 0x40002008 1 ≡ Some Half
unfolding phase_after
phase_half = refl

-- Until it is answered the place is seen.
pub phase_seen_before_the_answer : phase_after (cleared_at_stage2 ("tlbi 0 ipas2e1is 0x40000" ∷ [])) 0x40002008 1 ≡ Some Seen
unfolding phase_after
phase_seen_before_the_answer = refl

-- The second, of PE 0 alone, leaves the other PE at half.
pub phase_half_at_the_other_pe :
    phase_after (cleared_at_stage2
    ("tlbi 0 ipas2e1is 0x40000" ∷ "dsb 0 ish" ∷ "tlbi 0 vmalle1" ∷ "dsb 0 nsh" ∷ [])) 0x40002008 1 ≡ Some Half
unfolding phase_after
phase_half_at_the_other_pe = refl

-- At PE 0 the place is then cleansed.
pub phase_cleansed_by_two_steps :
    phase_after (cleared_at_stage2
    ("tlbi 0 ipas2e1is 0x40000" ∷ "dsb 0 ish" ∷ "tlbi 0 vmalle1" ∷ "dsb 0 nsh" ∷ [])) 0x40002008 0 ≡ Some Cleansed
unfolding phase_after
phase_cleansed_by_two_steps = refl

unfoldable pub restless_after : List String → Option ℕ
unfolding after restless_of
restless_after lines = after lines (λ heading h. restless_of heading Patterns h)

-- A place whose value is valid isn't restless.
pub restless_live : restless_after (made []) ≡ Some 0
unfolding restless_after
restless_live = refl

-- A cleared place is, also one that another PE cleared again.
pub restless_cleared : restless_after (cleared ("w 1 0x40000008 0x0" ∷ "w 0 0x40000010 0x0" ∷ [])) ≡ Some 1
unfolding restless_after
restless_cleared = refl

-- As long as it isn't cleansed at every PE.
pub restless_at_the_other_pe :
    restless_after (cleared ("dsb 0 ishst" ∷ "tlbi 0 alle2" ∷ "dsb 0 nsh" ∷ [])) ≡ Some 1
unfolding restless_after
restless_at_the_other_pe = refl

pub restless_flushed :
    restless_after (cleared ("dsb 0 ishst" ∷ "tlbi 0 vae2is 0x40000" ∷ "dsb 0 ish" ∷ [])) ≡ Some 0
unfolding restless_after
restless_flushed = refl

-- A cleared place of a page that is in no tree isn't.
pub restless_in_no_tree :
    restless_after ("bbmlog 1 hyp 2 1 1 1" ∷ "init 0 0x40001000" ∷ "w 0 0x40001008 0x80000701" ∷ "init 0 0x40002000"
    ∷ "w 0 0x40002010 0x0" ∷ []) ≡ Some 0
unfolding restless_after
restless_in_no_tree = refl

-- A broken table and a broken block below it are two.
pub restless_below_a_broken_table :
    restless_after ("bbmlog 1 hyp 2 1 1 1" ∷ "init 0 0x40000000" ∷ "root 0 el2 - 0x40000000" ∷ "init 0 0x40001000"
    ∷ "w 0 0x40000008 0x40001003" ∷ "w 0 0x40001000 0x80000701" ∷ "w 0 0x40000008 0x0" ∷ "w 0 0x40001000 0x0" ∷ []) ≡ Some 2
unfolding restless_after
restless_below_a_broken_table = refl
