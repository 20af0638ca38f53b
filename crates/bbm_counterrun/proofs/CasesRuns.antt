-- Worked cases: logs that end with a refused write, plans of conflict runs over them, and their runs.
use Rattle.bbm_counterrun.proofs.Common.{◌≡◌, ℕ, true, List, [], ◌∷◌, Option, Some, None, reverse, refl, Step}
use Rattle.bbm_counterrun.proofs.Common.{first_conflict, Plan, comes_before, run_of, ends_at_leaf, is_plain}
use Rattle.bbm_rules.proofs.Common.{String, El2, S2}
use Rattle.std.specs.Prelude.{Bool, false}
use Rattle.bbm_rules.specs.Tree.{tree}
use Rattle.bbm_counterrun.proofs.RunTexts.{before_last, of_events, steps_of}

-- what the test of a plan says of the last event of a log
unfoldable pub is_plain_in : List String → Plan → Option (Option Bool)
unfolding of_events
is_plain_in lines plan = of_events lines (λ heading events. before_last (λ h e. is_plain heading h e plan) (reverse events))

-- the run of a plan over a log, and the index of its first conflict
unfoldable pub run_over : List String → Plan → Option (List Step)
unfolding of_events
run_over lines plan = of_events lines (λ heading events. run_of plan events)

unfoldable pub conflict_of : List String → Plan → Option (Option ℕ)
unfolding of_events
conflict_of lines plan = of_events lines (λ heading events. first_conflict heading (reverse (run_of plan events)))

-- whether a log ends at a leaf
unfoldable pub leaf_in : List String → Option Bool
unfolding of_events tree
leaf_in lines = of_events lines (λ heading events. ends_at_leaf heading (reverse events))

abbrev pub stale_log : List String
stale_log =
    "bbmlog 1 hyp 2 1 1 1"
    ∷ "init 0 0x40000000"
    ∷ "root 0 el2 - 0x40000000"
    ∷ "msr 1 ttbr0_el2 0x40000000"
    ∷ "w 0 0x40000008 0x80000701"
    ∷ "w 0 0x40000008 0x0"
    ∷ "tlbi 0 vae2is 0x40000"
    ∷ "dsb 0 ish"
    ∷ "w 0 0x40000008 0xc0000701"
    ∷ []

abbrev pub stale_read : Plan
stale_read = record {
  starts = 6;
  pe = 1;
  kind = El2;
  number = 0;
  first = record { place = 0x40000008; value = 0x80000701 };
  rest = [];
  combines = None;
}

-- PE 1 reads the old value after the TLBI was issued, since no DSB published the clear before it
pub stale_read_is_plain : is_plain_in stale_log stale_read ≡ Some (Some true)
unfolding is_plain_in
stale_read_is_plain = refl

pub run_of_a_stale_read : run_over stale_log stale_read ≡ steps_of (
    "bbmlog 1 hyp 2 1 1 1"
    ∷ "init 0 0x40000000"
    ∷ "root 0 el2 - 0x40000000"
    ∷ "msr 1 ttbr0_el2 0x40000000"
    ∷ "w 0 0x40000008 0x80000701"
    ∷ "w 0 0x40000008 0x0"
    ∷ "tlbi 0 vae2is 0x40000"
    ∷ "m start 1 el2 0 0x40000008 0x80000701"
    ∷ "dsb 0 ish"
    ∷ "w 0 0x40000008 0xc0000701"
    ∷ [])
unfolding run_over steps_of
run_of_a_stale_read = refl

pub conflict_of_a_stale_read : conflict_of stale_log stale_read ≡ Some (Some 8)
unfolding conflict_of
conflict_of_a_stale_read = refl

-- an entry that is as old as the TLBI must have gone when the TLBI was answered
pub older_read_is_not_plain : is_plain_in stale_log (record stale_read { starts = 5 }) ≡ Some (Some false)
unfolding is_plain_in
older_read_is_not_plain = refl

-- before the value was written it can't be read
pub too_early_is_not_plain : is_plain_in stale_log (record stale_read { starts = 3 }) ≡ Some (Some false)
unfolding is_plain_in
too_early_is_not_plain = refl

-- PE 0 reads through no root
pub other_pe_is_not_plain : is_plain_in stale_log (record stale_read { pe = 0 }) ≡ Some (Some false)
unfolding is_plain_in
other_pe_is_not_plain = refl

abbrev pub combined_log : List String
combined_log =
    "bbmlog 1 hyp 2 1 1 1"
    ∷ "init 0 0x40002000"
    ∷ "root 0 s2 - 0x40002000"
    ∷ "msr 0 vttbr_el2 0x5000040002000"
    ∷ "isb 0"
    ∷ "w 0 0x40002008 0x800007fd"
    ∷ "w 0 0x40002008 0x0"
    ∷ "dsb 0 ishst"
    ∷ "tlbi 0 ipas2e1is 0x40000"
    ∷ "tlbi 0 vmalle1is"
    ∷ "dsb 0 ish"
    ∷ "w 0 0x40002008 0xc00007fd"
    ∷ []

abbrev pub combined_read : Plan
combined_read = record {
  starts = 5;
  pe = 0;
  kind = S2;
  number = 5;
  first = record { place = 0x40002008; value = 0x800007fd };
  rest = [];
  combines = Some 9;
}

-- Both TLBIs are answered by one DSB. The stages are joined after the second TLBI was issued, so that neither takes the
-- combined entry: the first takes none, the second none so young.
pub combined_read_is_plain : is_plain_in combined_log combined_read ≡ Some (Some true)
unfolding is_plain_in
combined_read_is_plain = refl

pub joined_earlier_is_not_plain : is_plain_in combined_log (record combined_read { combines = Some 8 }) ≡ Some (Some false)
unfolding is_plain_in
joined_earlier_is_not_plain = refl

pub uncombined_is_not_plain : is_plain_in combined_log (record combined_read { combines = None }) ≡ Some (Some false)
unfolding is_plain_in
uncombined_is_not_plain = refl

pub run_of_a_combined_read : run_over combined_log combined_read ≡ steps_of (
    "bbmlog 1 hyp 2 1 1 1"
    ∷ "init 0 0x40002000"
    ∷ "root 0 s2 - 0x40002000"
    ∷ "msr 0 vttbr_el2 0x5000040002000"
    ∷ "isb 0"
    ∷ "w 0 0x40002008 0x800007fd"
    ∷ "m start 0 s2 5 0x40002008 0x800007fd"
    ∷ "w 0 0x40002008 0x0"
    ∷ "dsb 0 ishst"
    ∷ "tlbi 0 ipas2e1is 0x40000"
    ∷ "tlbi 0 vmalle1is"
    ∷ "m combine 1"
    ∷ "m drop 1"
    ∷ "dsb 0 ish"
    ∷ "w 0 0x40002008 0xc00007fd"
    ∷ [])
unfolding run_over steps_of
run_of_a_combined_read = refl

pub conflict_of_a_combined_read : conflict_of combined_log combined_read ≡ Some (Some 13)
unfolding conflict_of
conflict_of_a_combined_read = refl

-- an extend, and the drop of the entry that it used
abbrev pub two_reads_log : List String
two_reads_log =
    "bbmlog 1 hyp 1 1 1 1"
    ∷ "init 0 0x40000000"
    ∷ "init 0 0x40001000"
    ∷ "w 0 0x40000008 0x40001003"
    ∷ "w 0 0x40001010 0x80000701"
    ∷ "root 0 el2 - 0x40000000"
    ∷ "msr 0 ttbr0_el2 0x40000000"
    ∷ "w 0 0x40001010 0x0"
    ∷ "w 0 0x40001010 0xc0000701"
    ∷ []

abbrev pub two_reads : Plan
two_reads = record {
  starts = 6;
  pe = 0;
  kind = El2;
  number = 0;
  first = record { place = 0x40000008; value = 0x40001003 };
  rest = record { place = 0x40001010; value = 0x80000701 } ∷ [];
  combines = None;
}

pub two_reads_are_plain : is_plain_in two_reads_log two_reads ≡ Some (Some true)
unfolding is_plain_in
two_reads_are_plain = refl

pub run_of_two_reads : run_over two_reads_log two_reads ≡ steps_of (
    "bbmlog 1 hyp 1 1 1 1"
    ∷ "init 0 0x40000000"
    ∷ "init 0 0x40001000"
    ∷ "w 0 0x40000008 0x40001003"
    ∷ "w 0 0x40001010 0x80000701"
    ∷ "root 0 el2 - 0x40000000"
    ∷ "msr 0 ttbr0_el2 0x40000000"
    ∷ "m start 0 el2 0 0x40000008 0x40001003"
    ∷ "m extend 1 0x40001010 0x80000701"
    ∷ "m drop 1"
    ∷ "w 0 0x40001010 0x0"
    ∷ "w 0 0x40001010 0xc0000701"
    ∷ [])
unfolding run_over steps_of
run_of_two_reads = refl

-- ---- roots that were given up

abbrev pub dead_guest_log : List String
dead_guest_log =
    "bbmlog 5 hyp 2 1 1 1 unflushed"
    ∷ "init 0 0x40000000"
    ∷ "root 0 s2 - 0x40000000"
    ∷ "w 0 0x40000000 0x40000701"
    ∷ "msr 0 vttbr_el2 0x5000040000000"
    ∷ "isb 0"
    ∷ "msr 0 vttbr_el2 0x0"
    ∷ "isb 0"
    ∷ "unroot 0 0x40000000"
    ∷ "init 0 0x40000000"
    ∷ "root 0 s2 - 0x40000000"
    ∷ "w 0 0x40000000 0x40000701"
    ∷ "msr 0 vttbr_el2 0x6000040000000"
    ∷ "w 0 0x40000000 0x80000701"
    ∷ []

abbrev pub guest_read : Plan
guest_read = record {
  starts = 12;
  pe = 0;
  kind = S2;
  number = 6;
  first = record { place = 0x40000000; value = 0x40000701 };
  rest = [];
  combines = None;
}

-- what was read through the root that is declared counts
pub living_guest_is_plain : is_plain_in dead_guest_log guest_read ≡ Some (Some true)
unfolding is_plain_in
living_guest_is_plain = refl

-- and what was through the root that was given up doesn't
pub dead_guest_is_not_plain : is_plain_in dead_guest_log (record guest_read { starts = 4; number = 5 }) ≡ Some (Some false)
unfolding is_plain_in
dead_guest_is_not_plain = refl

-- ---- what the place of the last write holds

pub a_leaf : leaf_in stale_log ≡ Some true
unfolding leaf_in
a_leaf = refl

pub a_table : leaf_in (
    "bbmlog 1 hyp 1 1 1 1"
    ∷ "init 0 0x40000000"
    ∷ "init 0 0x40001000"
    ∷ "w 0 0x40000008 0x40001003"
    ∷ "root 0 el2 - 0x40000000"
    ∷ "w 0 0x40000008 0x0"
    ∷ "w 0 0x40000008 0xc0000701"
    ∷ []) ≡ Some false
unfolding leaf_in
a_table = refl

-- ---- the order

pub the_earlier_start_is_first : comes_before combined_read stale_read ≡ true
the_earlier_start_is_first = refl

pub the_uncombined_is_first : comes_before (record combined_read { combines = None }) combined_read ≡ true
the_uncombined_is_first = refl

pub the_shorter_list_is_first : comes_before (record two_reads { rest = [] }) two_reads ≡ true
the_shorter_list_is_first = refl

pub none_is_before_itself : comes_before two_reads two_reads ≡ false
none_is_before_itself = refl
