-- Worked cases: the way to the place of a refused write, and the least reads of it.
use Rattle.bbm_counterrun.proofs.Common.{◌≡◌, ℕ, true, List, [], ◌∷◌, Option, Some, None, reverse, refl, Read}
use Rattle.bbm_counterrun.proofs.Common.{first_events, Goal, least_reads, way_to}
use Rattle.bbm_rules.proofs.Common.{String, El2}
use Rattle.bbm_rules.specs.Tree.{tree}
use Rattle.bbm_counterrun.proofs.CasesRuns.{is_plain_in, stale_log, stale_read, two_reads, two_reads_log}
use Rattle.bbm_counterrun.proofs.RunTexts.{before_last, of_events}

-- the way to a place before the last event of a log
unfoldable pub way_in : List String → ℕ → Option (Option (List Goal))
unfolding of_events tree
way_in lines place = of_events lines (λ heading events. before_last (λ h e. way_to heading h place) (reverse events))

-- the least reads of it, for a PE, when so many events were taken
unfoldable pub least_in : List String → ℕ → ℕ → ℕ → Option (Option (Option (List Read)))
unfolding of_events tree
least_in lines place n p =
    of_events lines (λ heading events.
    before_last (λ h e. least_reads heading (first_events n h) p (way_to heading h place)) (reverse events))

pub one_place : way_in stale_log 0x40000008
    ≡ Some (Some (record { place = 0x40000008; kind = El2; level = 1; value = 0x80000701 } ∷ []))
unfolding way_in
one_place = refl

pub two_places : way_in two_reads_log 0x40001010
    ≡ Some (Some (record { place = 0x40000008; kind = El2; level = 1; value = 0x40001003 }
    ∷ record { place = 0x40001010; kind = El2; level = 2; value = 0x80000701 } ∷ []))
unfolding way_in
two_places = refl

pub no_way : way_in stale_log 0x40003000 ≡ Some (Some [])
unfolding way_in
no_way = refl

pub least_of_one : least_in stale_log 0x40000008 6 1 ≡ Some (Some (Some (stale_read.first ∷ [])))
unfolding least_in
least_of_one = refl

pub least_of_two : least_in two_reads_log 0x40001010 6 0 ≡ Some (Some (Some (two_reads.first ∷ two_reads.rest)))
unfolding least_in
least_of_two = refl

-- before the value was written there is none
pub none_so_early : least_in stale_log 0x40000008 3 1 ≡ Some (Some None)
unfolding least_in
none_so_early = refl

-- A value that differs in its access permissions alone is written over the first one: a walk that reads either conflicts
-- with a third one, and the lesser is the first, until a DSB publishes the second.
abbrev pub alike_log : List String
alike_log =
    "bbmlog 1 hyp 2 1 1 1"
    ∷ "init 0 0x40000000"
    ∷ "root 0 el2 - 0x40000000"
    ∷ "msr 1 ttbr0_el2 0x40000000"
    ∷ "w 0 0x40000008 0x80000701"
    ∷ "w 0 0x40000008 0x80000781"
    ∷ "dsb 0 ish"
    ∷ "w 0 0x40000008 0xc0000701"
    ∷ []

pub the_lesser : least_in alike_log 0x40000008 5 1
    ≡ Some (Some (Some (record { place = 0x40000008; value = 0x80000701 } ∷ [])))
unfolding least_in
the_lesser = refl

pub the_published : least_in alike_log 0x40000008 6 1
    ≡ Some (Some (Some (record { place = 0x40000008; value = 0x80000781 } ∷ [])))
unfolding least_in
the_published = refl

pub the_lesser_is_plain : is_plain_in alike_log (record stale_read { starts = 5 }) ≡ Some (Some true)
unfolding is_plain_in
the_lesser_is_plain = refl
