-- Worked cases: a run of each kind, of each step and of each conflict, and what is no step of the machine's. The other
-- runs stand in examples/cases.
use Rattle.bbm_rules.proofs.Common.{codes}
use Rattle.std.specs.Prelude.{◌≡◌, [], ◌∷◌, refl}
use Rattle.bbm_tlb_machine.proofs.RunTexts.{followed}

-- The clear is published before the TLBI is issued: the entry is taken, and the remake is in no conflict.
pub flush_after_publication : followed (
    "bbmlog 1 hyp 2 1 1 1"
    ∷ "init 0 0x40000000"
    ∷ "root 0 el2 - 0x40000000"
    ∷ "msr 1 ttbr0_el2 0x40000000"
    ∷ "isb 1"
    ∷ "w 0 0x40000008 0x80000701"
    ∷ "m start 1 el2 0 0x40000008 0x80000701"
    ∷ "w 0 0x40000008 0x0"
    ∷ "dsb 0 ishst"
    ∷ "tlbi 0 vae2is 0x40000"
    ∷ "m drop 1"
    ∷ "dsb 0 ish"
    ∷ "w 0 0x40000008 0xc0000701"
    ∷ "end 10"
    ∷ []) ≡ codes "run 12 steps"
unfolding followed
flush_after_publication = refl

-- PE 1 reads the old value after the TLBI, since no DSB has published the clear. The entry is younger than the
-- TLBI.
pub follow_to_a_conflict : followed (
    "bbmlog 1 hyp 2 1 1 1"
    ∷ "init 0 0x40000000"
    ∷ "root 0 el2 - 0x40000000"
    ∷ "msr 1 ttbr0_el2 0x40000000"
    ∷ "w 0 0x40000008 0x80000701"
    ∷ "w 0 0x40000008 0x0"
    ∷ "tlbi 0 vae2is 0x40000"
    ∷ "m start 1 el2 0 0x40000008 0x80000701"
    ∷ "dsb 0 ish"
    ∷ "w 0 0x40000008 0xc0000701"
    ∷ "end 8"
    ∷ []) ≡ codes "run 9 steps conflict line 10"
unfolding followed
follow_to_a_conflict = refl

-- The same with the TLBI after the entry, which the DSB finds there.
pub follow_dsb_with_a_taken_entry : followed (
    "bbmlog 1 hyp 2 1 1 1"
    ∷ "init 0 0x40000000"
    ∷ "root 0 el2 - 0x40000000"
    ∷ "msr 1 ttbr0_el2 0x40000000"
    ∷ "w 0 0x40000008 0x80000701"
    ∷ "w 0 0x40000008 0x0"
    ∷ "m start 1 el2 0 0x40000008 0x80000701"
    ∷ "tlbi 0 vae2is 0x40000"
    ∷ "dsb 0 ish"
    ∷ "w 0 0x40000008 0xc0000701"
    ∷ "end 8"
    ∷ []) ≡ codes "bad step line 9"
unfolding followed
follow_dsb_with_a_taken_entry = refl

-- A page is initialised while an entry has a part in it.
pub page_initialised_under_an_entry : followed (
    "bbmlog 1 hyp 2 1 1 1"
    ∷ "init 0 0x40000000"
    ∷ "root 0 el2 - 0x40000000"
    ∷ "msr 1 ttbr0_el2 0x40000000"
    ∷ "isb 1"
    ∷ "w 0 0x40000008 0x80000701"
    ∷ "m start 1 el2 0 0x40000008 0x80000701"
    ∷ "init 0 0x40000000"
    ∷ "end 6"
    ∷ []) ≡ codes "run 7 steps conflict line 8"
unfolding followed
page_initialised_under_an_entry = refl

-- PE 0 turns to another root, while PE 1 keeps an entry of the first one under the same tag.
pub two_roots_under_one_tag : followed (
    "bbmlog 1 hyp 2 1 1 1"
    ∷ "init 0 0x40000000"
    ∷ "root 0 el2 - 0x40000000"
    ∷ "msr 1 ttbr0_el2 0x40000000"
    ∷ "isb 1"
    ∷ "w 0 0x40000008 0x80000701"
    ∷ "init 0 0x40005000"
    ∷ "root 0 el2 - 0x40005000"
    ∷ "m start 1 el2 0 0x40000008 0x80000701"
    ∷ "msr 0 ttbr0_el2 0x40005000"
    ∷ "end 8"
    ∷ []) ≡ codes "run 9 steps conflict line 10"
unfolding followed
two_roots_under_one_tag = refl

-- The entry has three parts; the first, the table two levels up, is replaced.
pub table_two_levels_up_is_replaced : followed (
    "bbmlog 1 hyp 2 1 1 1"
    ∷ "init 0 0x40000000"
    ∷ "init 0 0x40001000"
    ∷ "init 0 0x40002000"
    ∷ "root 0 el2 - 0x40000000"
    ∷ "msr 1 ttbr0_el2 0x40000000"
    ∷ "isb 1"
    ∷ "w 0 0x40000008 0x40001003"
    ∷ "w 0 0x40001010 0x40002003"
    ∷ "w 0 0x40002018 0x80000703"
    ∷ "m start 1 el2 0 0x40000008 0x40001003"
    ∷ "m extend 1 0x40001010 0x40002003"
    ∷ "m extend 2 0x40002018 0x80000703"
    ∷ "m drop 1"
    ∷ "m drop 2"
    ∷ "w 0 0x40000008 0x40005003"
    ∷ "end 10"
    ∷ []) ≡ codes "run 15 steps conflict line 16"
unfolding followed
table_two_levels_up_is_replaced = refl

-- The last part is a block, so nothing can be read below it.
pub extend_past_a_leaf : followed (
    "bbmlog 1 hyp 2 1 1 1"
    ∷ "init 0 0x40000000"
    ∷ "init 0 0x40001000"
    ∷ "root 0 el2 - 0x40000000"
    ∷ "msr 1 ttbr0_el2 0x40000000"
    ∷ "isb 1"
    ∷ "w 0 0x40000008 0x40001003"
    ∷ "w 0 0x40001010 0x80200701"
    ∷ "m start 1 el2 0 0x40000008 0x40001003"
    ∷ "m extend 1 0x40001010 0x80200701"
    ∷ "m extend 2 0x40001010 0x80200701"
    ∷ "end 7"
    ∷ []) ≡ codes "bad step line 11"
unfolding followed
extend_past_a_leaf = refl

-- The stages are joined after the TLBI for combined entries was issued.
pub follow_combined_entry_outlives_the_flush : followed (
    "bbmlog 1 hyp 2 1 1 1"
    ∷ "init 0 0x40002000"
    ∷ "root 0 s2 - 0x40002000"
    ∷ "msr 0 vttbr_el2 0x5000040002000"
    ∷ "isb 0"
    ∷ "w 0 0x40002008 0x800007fd"
    ∷ "m start 0 s2 5 0x40002008 0x800007fd"
    ∷ "w 0 0x40002008 0x0"
    ∷ "dsb 0 ishst"
    ∷ "tlbi 0 ipas2e1is 0x40000"
    ∷ "tlbi 0 vmalle1is"
    ∷ "m combine 1"
    ∷ "m drop 1"
    ∷ "dsb 0 ish"
    ∷ "w 0 0x40002008 0xc00007fd"
    ∷ "end 11"
    ∷ []) ≡ codes "run 14 steps conflict line 15"
unfolding followed
follow_combined_entry_outlives_the_flush = refl

-- The copy at PE 0 is as old as the entry of PE 1.
pub follow_shared_entry : followed (
    "bbmlog 2 hyp 2 1 1 1 cnp"
    ∷ "init 0 0x40000000"
    ∷ "root 0 el2 - 0x40000000"
    ∷ "msr 1 ttbr0_el2 0x40000001"
    ∷ "w 0 0x40000008 0x80000701"
    ∷ "m start 1 el2 0 0x40000008 0x80000701"
    ∷ "m share 1 0"
    ∷ "w 0 0x40000008 0x0"
    ∷ "dsb 0 ishst"
    ∷ "tlbi 0 alle2is"
    ∷ "m drop 1"
    ∷ "dsb 0 ish"
    ∷ "end 8"
    ∷ []) ≡ codes "bad step line 12"
unfolding followed
follow_shared_entry = refl

-- The header has no shared TLBs.
pub follow_share_without_cnp : followed (
    "bbmlog 2 hyp 2 1 1 1 -"
    ∷ "init 0 0x40000000"
    ∷ "root 0 el2 - 0x40000000"
    ∷ "msr 1 ttbr0_el2 0x40000001"
    ∷ "w 0 0x40000008 0x80000701"
    ∷ "m start 1 el2 0 0x40000008 0x80000701"
    ∷ "m share 1 0"
    ∷ "w 0 0x40000008 0x0"
    ∷ "dsb 0 ishst"
    ∷ "tlbi 0 alle2is"
    ∷ "m drop 1"
    ∷ "dsb 0 ish"
    ∷ "end 8"
    ∷ []) ≡ codes "bad step line 7"
unfolding followed
follow_share_without_cnp = refl

-- No entry has the number any more.
pub entry_was_dropped : followed (
    "bbmlog 1 hyp 2 1 1 1"
    ∷ "init 0 0x40000000"
    ∷ "root 0 el2 - 0x40000000"
    ∷ "msr 1 ttbr0_el2 0x40000000"
    ∷ "isb 1"
    ∷ "w 0 0x40000008 0x80000701"
    ∷ "m start 1 el2 0 0x40000008 0x80000701"
    ∷ "m drop 1"
    ∷ "m drop 1"
    ∷ "end 5"
    ∷ []) ≡ codes "bad step line 9"
unfolding followed
entry_was_dropped = refl

-- TTBR0_EL1 names the ASID of the upper range.
pub asid_of_ttbr0_where_the_header_says_so : followed (
    "bbmlog 1 kernel 1 1 1 ttbr0"
    ∷ "init 0 0x40000000"
    ∷ "init 0 0x40001000"
    ∷ "root 0 ttbr0 - 0x40000000"
    ∷ "root 0 ttbr1 - 0x40001000"
    ∷ "msr 0 ttbr0_el1 0x5000040000000"
    ∷ "msr 0 ttbr1_el1 0x7000040001000"
    ∷ "isb 0"
    ∷ "w 0 0x40001000 0x80000f01"
    ∷ "m start 0 ttbr1 5 0x40001000 0x80000f01"
    ∷ "m start 0 ttbr1 7 0x40001000 0x80000f01"
    ∷ "end 8"
    ∷ []) ≡ codes "bad step line 11"
unfolding followed
asid_of_ttbr0_where_the_header_says_so = refl

-- An entry of an earlier declaration of the page is one of another root.
pub follow_same_page_is_another_root : followed (
    "bbmlog 5 hyp 2 1 1 1 unflushed"
    ∷ "init 0 0x40000000"
    ∷ "root 0 el2 - 0x40000000"
    ∷ "w 0 0x40000000 0x40000701"
    ∷ "msr 0 ttbr0_el2 0x40000000"
    ∷ "m start 0 el2 0 0x40000000 0x40000701"
    ∷ "msr 0 ttbr0_el2 0x0"
    ∷ "isb 0"
    ∷ "unroot 0 0x40000000"
    ∷ "init 0 0x40000000"
    ∷ "root 0 el2 - 0x40000000"
    ∷ "msr 0 ttbr0_el2 0x40000000"
    ∷ "end 10"
    ∷ []) ≡ codes "run 11 steps conflict line 12"
unfolding followed
follow_same_page_is_another_root = refl
