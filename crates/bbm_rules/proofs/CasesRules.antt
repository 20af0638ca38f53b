-- Worked cases: of each rule, in their order, a log that it refuses and one that it keeps narrowly; and what mutants of
-- the definitions would get wrong. The other logs stand in examples/cases.
use Rattle.bbm_rules.proofs.Common.{codes}
use Rattle.std.specs.Prelude.{◌≡◌, [], ◌∷◌, refl}
use Rattle.bbm_rules.proofs.Judged.{judged}

-- Rule 1, wrong-world

-- A register is of its world, whatever its base is.
pub null_page_in_vttbr_of_the_kernel_world : judged (
    "bbmlog 5 kernel 2 1 1 ttbr1"
    ∷ "init 0 0x40000000"
    ∷ "null 0 0x40000000"
    ∷ "msr 0 vttbr_el2 0x40000000"
    ∷ "end 3"
    ∷ []) ≡ codes "refused line 4 rule 1 wrong-world at 0x0\n"
unfolding judged
null_page_in_vttbr_of_the_kernel_world = refl

-- A null page in VTTBR_EL2, beside a VMID.
pub null_page_in_vttbr_el2 : judged (
    "bbmlog 5 hyp 2 1 1 1"
    ∷ "init 0 0x40000000"
    ∷ "null 0 0x40000000"
    ∷ "msr 0 vttbr_el2 0x5000040000000"
    ∷ "isb 0"
    ∷ "end 4"
    ∷ []) ≡ codes "accepted 4 events\n"
unfolding judged
null_page_in_vttbr_el2 = refl

-- Rule 2, no-lock

-- The lock of the root is asked for a place below a table.
pub lock_of_the_root_asked_below_a_table : judged (
    "bbmlog 1 hyp 2 1 1 1"
    ∷ "init 0 0x40000000"
    ∷ "root 0 el2 3 0x40000000"
    ∷ "lock 0 3"
    ∷ "init 0 0x40001000"
    ∷ "w 0 0x40000008 0x40001003"
    ∷ "unlock 0 3"
    ∷ "w 0 0x40001000 0x80000701"
    ∷ "end 7"
    ∷ []) ≡ codes "refused line 8 rule 2 no-lock at 0x40001000\n"
unfolding judged
lock_of_the_root_asked_below_a_table = refl

-- The PE that writes holds the lock.
pub write_with_the_lock : judged (
    "bbmlog 1 hyp 2 1 1 1"
    ∷ "init 0 0x40000000"
    ∷ "root 0 el2 3 0x40000000"
    ∷ "lock 1 3"
    ∷ "w 1 0x40000008 0x80000701"
    ∷ "end 4"
    ∷ []) ≡ codes "accepted 4 events\n"
unfolding judged
write_with_the_lock = refl

-- Rule 3, null-written

-- A null page stays one when another page becomes one.
pub write_to_the_first_of_two_null_pages : judged (
    "bbmlog 1 kernel 1 1 1 ttbr0"
    ∷ "init 0 0x40000000"
    ∷ "null 0 0x40000000"
    ∷ "init 0 0x40001000"
    ∷ "null 0 0x40001000"
    ∷ "w 0 0x40000000 0x0"
    ∷ "end 5"
    ∷ []) ≡ codes "refused line 6 rule 3 null-written at 0x40000000\n"
unfolding judged
write_to_the_first_of_two_null_pages = refl

-- A VMID beside a null page is in use for no root.
pub vmid_beside_a_null_page_holds_no_tag : judged (
    "bbmlog 5 hyp 2 1 1 1"
    ∷ "init 0 0x40000000"
    ∷ "null 0 0x40000000"
    ∷ "init 0 0x40001000"
    ∷ "root 0 s2 - 0x40001000"
    ∷ "msr 0 vttbr_el2 0x5000040000000"
    ∷ "isb 0"
    ∷ "msr 1 vttbr_el2 0x5000040001000"
    ∷ "end 7"
    ∷ []) ≡ codes "accepted 7 events\n"
unfolding judged
vmid_beside_a_null_page_holds_no_tag = refl

-- Rule 4, break-before-make

-- The TLBI comes before the DSB that publishes the clear.
pub tlbi_before_publication : judged (
    "bbmlog 1 hyp 2 1 1 1"
    ∷ "init 0 0x40000000"
    ∷ "root 0 el2 - 0x40000000"
    ∷ "w 0 0x40000008 0x80000701"
    ∷ "dsb 0 ishst"
    ∷ "w 0 0x40000008 0x0"
    ∷ "tlbi 0 vae2is 0x40000"
    ∷ "dsb 0 ish"
    ∷ "w 0 0x40000008 0xc0000701"
    ∷ "end 8"
    ∷ []) ≡ codes "refused line 9 rule 4 break-before-make at 0x40000008\n"
unfolding judged
tlbi_before_publication = refl

-- A non-shareable DSB doesn't answer a broadcast TLBI.
pub nsh_answers_no_broadcast : judged (
    "bbmlog 1 hyp 2 1 1 1"
    ∷ "init 0 0x40000000"
    ∷ "root 0 el2 - 0x40000000"
    ∷ "w 0 0x40000008 0x80000701"
    ∷ "w 0 0x40000008 0x0"
    ∷ "dsb 0 ishst"
    ∷ "tlbi 0 vae2is 0x40000"
    ∷ "dsb 0 nsh"
    ∷ "w 0 0x40000008 0xc0000701"
    ∷ "end 8"
    ∷ []) ≡ codes "refused line 9 rule 4 break-before-make at 0x40000008\n"
unfolding judged
nsh_answers_no_broadcast = refl

-- Where PEs may share TLB entries a local flush covers nothing.
pub cnp_local_flush_is_refused : judged (
    "bbmlog 2 hyp 2 1 1 1 cnp"
    ∷ "init 0 0x40000000"
    ∷ "root 0 el2 - 0x40000000"
    ∷ "w 0 0x40000008 0x80000701"
    ∷ "dsb 0 ish"
    ∷ "w 0 0x40000008 0x0"
    ∷ "dsb 0 ishst"
    ∷ "tlbi 0 alle2"
    ∷ "dsb 0 nsh"
    ∷ "tlbi 1 alle2"
    ∷ "dsb 1 nsh"
    ∷ "w 0 0x40000008 0xc0000701"
    ∷ "end 11"
    ∷ []) ≡ codes "refused line 12 rule 4 break-before-make at 0x40000008\n"
unfolding judged
cnp_local_flush_is_refused = refl

-- Where PEs may share TLB entries a DSB of the non-shareable domain publishes nothing, not even to its own PE.
pub cnp_local_publication_is_refused : judged (
    "bbmlog 2 hyp 1 1 1 1 cnp"
    ∷ "init 0 0x40000000"
    ∷ "root 0 el2 - 0x40000000"
    ∷ "w 0 0x40000008 0x80000701"
    ∷ "w 0 0x40000008 0x0"
    ∷ "dsb 0 nshst"
    ∷ "tlbi 0 alle2is"
    ∷ "dsb 0 ish"
    ∷ "w 0 0x40000008 0xc0000701"
    ∷ "end 8"
    ∷ []) ≡ codes "refused line 9 rule 4 break-before-make at 0x40000008\n"
unfolding judged
cnp_local_publication_is_refused = refl

-- A block is cleared, the clear is published, the block is flushed by address and the flush is answered.
pub el2_block_moved_after_tlbi_by_address : judged (
    "bbmlog 1 hyp 2 1 1 1"
    ∷ "init 0 0x40000000"
    ∷ "root 0 el2 - 0x40000000"
    ∷ "w 0 0x40000008 0x80000701"
    ∷ "dsb 0 ishst"
    ∷ "w 0 0x40000008 0x0"
    ∷ "dsb 0 ishst"
    ∷ "tlbi 0 vae2is 0x40000"
    ∷ "dsb 0 ish"
    ∷ "w 0 0x40000008 0xc0000701"
    ∷ "end 9"
    ∷ []) ≡ codes "accepted 9 events\n"
unfolding judged
el2_block_moved_after_tlbi_by_address = refl

-- Rule 5, limbo-make

-- A place is in limbo where the table two levels above it was cleared.
pub limbo_two_levels_up : judged (
    "bbmlog 1 hyp 2 0 1 1"
    ∷ "init 0 0x40000000"
    ∷ "root 0 el2 - 0x40000000"
    ∷ "init 0 0x40001000"
    ∷ "init 0 0x40002000"
    ∷ "w 0 0x40001000 0x40002003"
    ∷ "w 0 0x40000000 0x40001003"
    ∷ "w 0 0x40000000 0x0"
    ∷ "w 0 0x40002000 0x80000701"
    ∷ "end 8"
    ∷ []) ≡ codes "refused line 9 rule 5 limbo-make at 0x40002000\n"
unfolding judged
limbo_two_levels_up = refl

-- Clearing a place in limbo breaks no rule.
pub clear_in_limbo_is_free : judged (
    "bbmlog 1 hyp 2 1 1 1"
    ∷ "init 0 0x40000000"
    ∷ "root 0 el2 - 0x40000000"
    ∷ "init 0 0x40001000"
    ∷ "w 0 0x40000008 0x40001003"
    ∷ "w 0 0x40001000 0x80000701"
    ∷ "w 0 0x40000008 0x0"
    ∷ "w 0 0x40001000 0x0"
    ∷ "end 7"
    ∷ []) ≡ codes "accepted 7 events\n"
unfolding judged
clear_in_limbo_is_free = refl

-- Rule 6, not-fresh

-- A one-page flush doesn't cover a table whose places hold something, so its page still hangs.
pub table_with_children_flushed_by_one_page : judged (
    "bbmlog 1 hyp 2 1 1 1"
    ∷ "init 0 0x40002000"
    ∷ "init 0 0x40003000"
    ∷ "root 0 s2 - 0x40002000"
    ∷ "msr 0 vttbr_el2 0x5000040002000"
    ∷ "isb 0"
    ∷ "w 0 0x40002000 0x40003003"
    ∷ "w 0 0x40003000 0x800007fd"
    ∷ "w 0 0x40002000 0x0"
    ∷ "dsb 0 ishst"
    ∷ "tlbi 0 ipas2e1is 0x0"
    ∷ "dsb 0 ish"
    ∷ "tlbi 0 vmalle1is"
    ∷ "dsb 0 ish"
    ∷ "w 0 0x40002010 0x40003003"
    ∷ "end 14"
    ∷ []) ≡ codes "refused line 15 rule 6 not-fresh at 0x40003000\n"
unfolding judged
table_with_children_flushed_by_one_page = refl

-- A table is flushed whole; its page is initialised and linked elsewhere.
pub stage2_table_flushed_whole_and_linked_elsewhere : judged (
    "bbmlog 1 hyp 2 1 1 1"
    ∷ "init 0 0x40002000"
    ∷ "init 0 0x40003000"
    ∷ "root 0 s2 - 0x40002000"
    ∷ "msr 0 vttbr_el2 0x5000040002000"
    ∷ "isb 0"
    ∷ "w 0 0x40002000 0x40003003"
    ∷ "w 0 0x40003000 0x800007fd"
    ∷ "w 0 0x40002000 0x0"
    ∷ "dsb 0 ishst"
    ∷ "tlbi 0 vmalls12e1is"
    ∷ "dsb 0 ish"
    ∷ "init 0 0x40003000"
    ∷ "w 0 0x40002010 0x40003003"
    ∷ "end 13"
    ∷ []) ≡ codes "accepted 13 events\n"
unfolding judged
stage2_table_flushed_whole_and_linked_elsewhere = refl

-- Rule 7, rewritten-fresh

-- A value of a fresh page with bit 0 set may not be cleared.
pub fresh_value_cleared : judged (
    "bbmlog 1 hyp 2 1 1 1"
    ∷ "init 0 0x40001000"
    ∷ "w 0 0x40001000 0x80000701"
    ∷ "w 0 0x40001000 0x0"
    ∷ "end 3"
    ∷ []) ≡ codes "refused line 4 rule 7 rewritten-fresh at 0x40001000\n"
unfolding judged
fresh_value_cleared = refl

-- An `init` between two writes makes a fresh page zero.
pub init_makes_the_page_zero : judged (
    "bbmlog 1 hyp 2 1 1 1"
    ∷ "init 0 0x40001000"
    ∷ "w 0 0x40001000 0x80000701"
    ∷ "init 0 0x40001000"
    ∷ "w 0 0x40001000 0xc0000701"
    ∷ "end 4"
    ∷ []) ≡ codes "accepted 4 events\n"
unfolding judged
init_makes_the_page_zero = refl

-- Rule 8, bad-kind

-- A page with a leaf that has the Contiguous hint is attached.
pub contiguous_leaf_in_an_attached_page : judged (
    "bbmlog 1 hyp 2 1 1 1"
    ∷ "init 0 0x40000000"
    ∷ "root 0 el2 - 0x40000000"
    ∷ "init 0 0x40001000"
    ∷ "w 0 0x40001000 0x10000080000701"
    ∷ "w 0 0x40000008 0x40001003"
    ∷ "end 5"
    ∷ []) ≡ codes "refused line 6 rule 8 bad-kind at 0x40001000\n"
unfolding judged
contiguous_leaf_in_an_attached_page = refl

-- A root page is read at the start level of its kind: bits 01 at level 0 are no leaf, so none has the Contiguous hint.
pub root_page_read_at_its_start_level : judged (
    "bbmlog 1 hyp 2 0 1 1"
    ∷ "init 0 0x40000000"
    ∷ "w 0 0x40000000 0x10000080000701"
    ∷ "root 0 el2 - 0x40000000"
    ∷ "end 3"
    ∷ []) ≡ codes "accepted 3 events\n"
unfolding judged
root_page_read_at_its_start_level = refl

-- Rule 9, global-user

-- A leaf of the lower range is for every ASID.
pub global_leaf_in_ttbr0 : judged (
    "bbmlog 1 kernel 1 1 1 ttbr0"
    ∷ "init 0 0x40000000"
    ∷ "root 0 ttbr0 - 0x40000000"
    ∷ "w 0 0x40000000 0x80000701"
    ∷ "end 3"
    ∷ []) ≡ codes "refused line 4 rule 9 global-user at 0x40000000\n"
unfolding judged
global_leaf_in_ttbr0 = refl

-- A global leaf of the upper range is flushed under ASID 7, which nobody uses.
pub global_ttbr1_leaf_flushed_under_any_asid : judged (
    "bbmlog 1 kernel 2 1 1 ttbr1"
    ∷ "init 0 0x40000000"
    ∷ "root 0 ttbr1 - 0x40000000"
    ∷ "msr 0 ttbr1_el1 0x1000040000000"
    ∷ "isb 0"
    ∷ "w 0 0x40000000 0x80000701"
    ∷ "w 0 0x40000000 0x0"
    ∷ "dsb 0 ishst"
    ∷ "tlbi 0 vae1is 0x70ffff8000000"
    ∷ "dsb 0 ish"
    ∷ "w 0 0x40000000 0xc0000701"
    ∷ "end 10"
    ∷ []) ≡ codes "accepted 10 events\n"
unfolding judged
global_ttbr1_leaf_flushed_under_any_asid = refl

-- Rule 10, page-in-use

-- A one-page flush covers the broken block below, but not the table: at its issue the place below still held the block.
pub broken_child_still_counts : judged (
    "bbmlog 1 hyp 2 1 1 1"
    ∷ "init 0 0x40000000"
    ∷ "root 0 el2 - 0x40000000"
    ∷ "init 0 0x40001000"
    ∷ "w 0 0x40000000 0x40001003"
    ∷ "w 0 0x40001000 0x80000701"
    ∷ "w 0 0x40001000 0x0"
    ∷ "w 0 0x40000000 0x0"
    ∷ "dsb 0 ishst"
    ∷ "tlbi 0 vae2is 0x0"
    ∷ "dsb 0 ish"
    ∷ "init 0 0x40001000"
    ∷ "end 11"
    ∷ []) ≡ codes "refused line 12 rule 10 page-in-use at 0x40001000\n"
unfolding judged
broken_child_still_counts = refl

-- A table below which nothing is held is flushed by one page.
pub childless_table_flushed_by_one_page : judged (
    "bbmlog 1 hyp 2 1 1 1"
    ∷ "init 0 0x40000000"
    ∷ "root 0 el2 - 0x40000000"
    ∷ "init 0 0x40001000"
    ∷ "w 0 0x40000008 0x40001003"
    ∷ "w 0 0x40000008 0x0"
    ∷ "dsb 0 ishst"
    ∷ "tlbi 0 vae2is 0x40000"
    ∷ "dsb 0 ish"
    ∷ "init 0 0x40001000"
    ∷ "end 9"
    ∷ []) ≡ codes "accepted 9 events\n"
unfolding judged
childless_table_flushed_by_one_page = refl

-- A page that a guest maps may become a null page.
pub null_page_is_mapped : judged (
    "bbmlog 5 hyp 1 1 1 1 isolated"
    ∷ "init 0 0x40000000"
    ∷ "init 0 0x40001000"
    ∷ "init 0 0x40002000"
    ∷ "root 0 s2 - 0x40000000"
    ∷ "msr 0 vttbr_el2 0x5000040000000"
    ∷ "isb 0"
    ∷ "w 0 0x40000000 0x40001003"
    ∷ "w 0 0x40001000 0x40002003"
    ∷ "w 0 0x40002000 0x500007ff"
    ∷ "init 0 0x50000000"
    ∷ "null 0 0x50000000"
    ∷ "end 11"
    ∷ []) ≡ codes "accepted 11 events\n"
unfolding judged
null_page_is_mapped = refl

-- Rule 11, no-root

-- A page that isn't null is no base.
pub fresh_page_in_vttbr : judged (
    "bbmlog 5 hyp 2 1 1 1"
    ∷ "init 0 0x40000000"
    ∷ "msr 0 vttbr_el2 0x5000040000000"
    ∷ "end 2"
    ∷ []) ≡ codes "refused line 3 rule 11 no-root at 0x40000000\n"
unfolding judged
fresh_page_in_vttbr = refl

-- A null page in TTBR1_EL1, as a kernel without an upper table has one.
pub null_page_in_ttbr1_of_version_5 : judged (
    "bbmlog 5 kernel 2 1 1 ttbr1"
    ∷ "init 0 0x40000000"
    ∷ "null 0 0x40000000"
    ∷ "msr 0 ttbr1_el1 0x5000040000000"
    ∷ "isb 0"
    ∷ "end 4"
    ∷ []) ≡ codes "accepted 4 events\n"
unfolding judged
null_page_in_ttbr1_of_version_5 = refl

-- Under version 4 a null page may be in TTBR0_EL1 alone.
pub null_page_in_ttbr1_of_version_4 : judged (
    "bbmlog 4 kernel 2 1 1 ttbr1 -"
    ∷ "init 0 0x40000000"
    ∷ "null 0 0x40000000"
    ∷ "msr 0 ttbr1_el1 0x5000040000000"
    ∷ "end 3"
    ∷ []) ≡ codes "refused line 4 rule 11 no-root at 0x40000000\n"
unfolding judged
null_page_in_ttbr1_of_version_4 = refl

-- Rule 12, tag-conflict

-- The flush was issued before the ISB, when PE 0 could still use the first root, so the tag stays held.
pub flush_before_the_isb_keeps_the_tag : judged (
    "bbmlog 1 hyp 2 1 1 1"
    ∷ "init 0 0x40000000"
    ∷ "root 0 el2 - 0x40000000"
    ∷ "init 0 0x40001000"
    ∷ "root 0 el2 - 0x40001000"
    ∷ "msr 0 ttbr0_el2 0x40000000"
    ∷ "isb 0"
    ∷ "msr 0 ttbr0_el2 0x0"
    ∷ "tlbi 0 alle2is"
    ∷ "isb 0"
    ∷ "dsb 0 ish"
    ∷ "msr 0 ttbr0_el2 0x40001000"
    ∷ "end 11"
    ∷ []) ≡ codes "refused line 12 rule 12 tag-conflict at 0x40000000\n"
unfolding judged
flush_before_the_isb_keeps_the_tag = refl

-- Under `unflushed` the VMID of a dead guest is flushed on one PE alone: the other PE has it still.
pub local_flush_of_a_left_vmid_on_one_pe : judged (
    "bbmlog 5 hyp 2 1 1 1 unflushed"
    ∷ "init 0 0x40000000"
    ∷ "root 0 s2 - 0x40000000"
    ∷ "msr 0 vttbr_el2 0x5000040000000"
    ∷ "isb 0"
    ∷ "msr 1 vttbr_el2 0x5000040000000"
    ∷ "isb 1"
    ∷ "msr 0 vttbr_el2 0x0"
    ∷ "isb 0"
    ∷ "msr 1 vttbr_el2 0x0"
    ∷ "isb 1"
    ∷ "unroot 0 0x40000000"
    ∷ "init 0 0x40001000"
    ∷ "root 0 s2 - 0x40001000"
    ∷ "tlbi 0 alle1"
    ∷ "dsb 0 nsh"
    ∷ "msr 0 vttbr_el2 0x5000040001000"
    ∷ "end 16"
    ∷ []) ≡ codes "refused line 17 rule 12 tag-conflict at 0x40000000\n"
unfolding judged
local_flush_of_a_left_vmid_on_one_pe = refl

-- An ASID goes to another root behind an ISB and then a flush.
pub asid_reused_after_isb_and_flush : judged (
    "bbmlog 1 kernel 2 1 1 ttbr0"
    ∷ "init 0 0x40000000"
    ∷ "init 0 0x40001000"
    ∷ "root 0 ttbr0 - 0x40000000"
    ∷ "root 0 ttbr0 - 0x40001000"
    ∷ "msr 0 ttbr0_el1 0x5000040000000"
    ∷ "isb 0"
    ∷ "msr 0 ttbr0_el1 0x0"
    ∷ "isb 0"
    ∷ "tlbi 0 aside1is 0x5000000000000"
    ∷ "dsb 0 ish"
    ∷ "msr 1 ttbr0_el1 0x5000040001000"
    ∷ "end 11"
    ∷ []) ≡ codes "accepted 11 events\n"
unfolding judged
asid_reused_after_isb_and_flush = refl

-- Rule 13, root-in-use

-- A root is given up that another PE has loaded: the registers of each PE count.
pub guest_given_up_while_loaded_on_another_pe : judged (
    "bbmlog 5 hyp 2 1 1 1 unflushed"
    ∷ "init 0 0x40000000"
    ∷ "root 0 s2 - 0x40000000"
    ∷ "msr 1 vttbr_el2 0x5000040000000"
    ∷ "isb 1"
    ∷ "unroot 0 0x40000000"
    ∷ "end 5"
    ∷ []) ≡ codes "refused line 6 rule 13 root-in-use at 0x40000000\n"
unfolding judged
guest_given_up_while_loaded_on_another_pe = refl

-- Under `unflushed` a guest dies, and its pages are used again under another VMID.
pub guest_that_dies_unflushed : judged (
    "bbmlog 5 hyp 2 1 1 1 unflushed"
    ∷ "init 0 0x40000000"
    ∷ "init 0 0x40001000"
    ∷ "root 0 s2 - 0x40000000"
    ∷ "w 0 0x40000000 0x40001003"
    ∷ "w 0 0x40001000 0x40200701"
    ∷ "msr 0 vttbr_el2 0x5000040000000"
    ∷ "isb 0"
    ∷ "msr 0 vttbr_el2 0x0"
    ∷ "isb 0"
    ∷ "unroot 0 0x40000000"
    ∷ "init 0 0x40001000"
    ∷ "init 0 0x40000000"
    ∷ "root 0 s2 - 0x40001000"
    ∷ "w 0 0x40001000 0x40000003"
    ∷ "w 0 0x40000000 0x40400701"
    ∷ "msr 0 vttbr_el2 0x6000040001000"
    ∷ "isb 0"
    ∷ "end 17"
    ∷ []) ≡ codes "accepted 17 events\n"
unfolding judged
guest_that_dies_unflushed = refl

-- Rule 14, unsynced-vmid

-- An ISB of another PE doesn't synchronise the VMID.
pub isb_of_another_pe : judged (
    "bbmlog 1 hyp 2 1 1 1"
    ∷ "init 0 0x40002000"
    ∷ "root 0 s2 - 0x40002000"
    ∷ "msr 1 vttbr_el2 0x5000040002000"
    ∷ "isb 0"
    ∷ "tlbi 1 vmalle1is"
    ∷ "end 5"
    ∷ []) ≡ codes "refused line 6 rule 14 unsynced-vmid at 0x1\n"
unfolding judged
isb_of_another_pe = refl

-- Two readable values with one VMID leave no doubt.
pub one_vmid_in_two_values : judged (
    "bbmlog 1 hyp 2 1 1 1"
    ∷ "init 0 0x40002000"
    ∷ "root 0 s2 - 0x40002000"
    ∷ "msr 1 vttbr_el2 0x5000040002000"
    ∷ "isb 1"
    ∷ "msr 1 vttbr_el2 0x5000040002000"
    ∷ "tlbi 1 vmalle1is"
    ∷ "end 6"
    ∷ []) ≡ codes "accepted 6 events\n"
unfolding judged
one_vmid_in_two_values = refl

-- Rule 15, bad-operand

-- The level hint is 1, and the range begins at no multiple of 1 GiB.
pub range_tlbi_not_aligned : judged (
    "bbmlog 4 hyp 2 1 1 1 -"
    ∷ "init 0 0x40000000"
    ∷ "root 0 el2 - 0x40000000"
    ∷ "init 0 0x40001000"
    ∷ "w 0 0x40001000 0x80000701"
    ∷ "w 0 0x40000008 0x40001003"
    ∷ "w 0 0x40000008 0x0"
    ∷ "dsb 0 ishst"
    ∷ "tlbi 0 rvae2is 0x71a000040001"
    ∷ "dsb 0 ish"
    ∷ "w 0 0x40000008 0xc0000701"
    ∷ "end 10"
    ∷ []) ≡ codes "refused line 9 rule 15 bad-operand at 0x71a000040001\n"
unfolding judged
range_tlbi_not_aligned = refl

-- A level hint of 0 is no hint.
pub level_hint_0_is_no_hint : judged (
    "bbmlog 1 hyp 2 1 1 1"
    ∷ "init 0 0x40000000"
    ∷ "root 0 el2 - 0x40000000"
    ∷ "w 0 0x40000008 0x80000701"
    ∷ "w 0 0x40000008 0x0"
    ∷ "dsb 0 ishst"
    ∷ "tlbi 0 vae2is 0x400000040000"
    ∷ "dsb 0 ish"
    ∷ "w 0 0x40000008 0xc0000701"
    ∷ "end 8"
    ∷ []) ≡ codes "accepted 8 events\n"
unfolding judged
level_hint_0_is_no_hint = refl

-- Rules 16 and 17, lock-busy and lock-not-mine

-- Giving back one lock frees no other.
pub unlock_of_another_lock : judged (
    "bbmlog 1 hyp 2 1 1 1"
    ∷ "lock 0 3"
    ∷ "lock 0 4"
    ∷ "unlock 0 4"
    ∷ "lock 1 3"
    ∷ "end 4"
    ∷ []) ≡ codes "refused line 5 rule 16 lock-busy at 0x0\n"
unfolding judged
unlock_of_another_lock = refl

-- A lock is given back by a PE that doesn't hold it.
pub unlock_by_another : judged (
    "bbmlog 1 hyp 2 1 1 1"
    ∷ "unlock 1 3"
    ∷ "end 1"
    ∷ []) ≡ codes "refused line 2 rule 17 lock-not-mine at 0x3\n"
unfolding judged
unlock_by_another = refl

-- A lock that was given back may be taken by another PE.
pub lock_free_after_unlock : judged (
    "bbmlog 1 hyp 2 1 1 1"
    ∷ "lock 0 3"
    ∷ "unlock 0 3"
    ∷ "lock 1 3"
    ∷ "end 3"
    ∷ []) ≡ codes "accepted 3 events\n"
unfolding judged
lock_free_after_unlock = refl

-- Rule 18, table-mapped

-- A page that was taken from a guest becomes a table before the flush.
pub guest_page_not_flushed : judged (
    "bbmlog 5 hyp 1 1 1 1 isolated"
    ∷ "init 0 0x40000000"
    ∷ "init 0 0x40001000"
    ∷ "init 0 0x40002000"
    ∷ "root 0 s2 - 0x40000000"
    ∷ "msr 0 vttbr_el2 0x5000040000000"
    ∷ "isb 0"
    ∷ "w 0 0x40000000 0x40001003"
    ∷ "w 0 0x40001000 0x40002003"
    ∷ "w 0 0x40002000 0x500007ff"
    ∷ "w 0 0x40002000 0x0"
    ∷ "dsb 0 ishst"
    ∷ "init 0 0x50000000"
    ∷ "init 0 0x40010000"
    ∷ "root 0 el2 - 0x40010000"
    ∷ "w 0 0x40010000 0x50000003"
    ∷ "end 15"
    ∷ []) ≡ codes "refused line 16 rule 18 table-mapped at 0x50000000\n"
unfolding judged
guest_page_not_flushed = refl

-- A page that was taken from a guest becomes a table behind both steps of the flush.
pub guest_page_flushed : judged (
    "bbmlog 5 hyp 1 1 1 1 isolated"
    ∷ "init 0 0x40000000"
    ∷ "init 0 0x40001000"
    ∷ "init 0 0x40002000"
    ∷ "root 0 s2 - 0x40000000"
    ∷ "msr 0 vttbr_el2 0x5000040000000"
    ∷ "isb 0"
    ∷ "w 0 0x40000000 0x40001003"
    ∷ "w 0 0x40001000 0x40002003"
    ∷ "w 0 0x40002000 0x500007ff"
    ∷ "w 0 0x40002000 0x0"
    ∷ "dsb 0 ishst"
    ∷ "tlbi 0 ipas2e1is 0x0"
    ∷ "dsb 0 ish"
    ∷ "tlbi 0 vmalle1is"
    ∷ "dsb 0 ish"
    ∷ "init 0 0x50000000"
    ∷ "init 0 0x40010000"
    ∷ "root 0 el2 - 0x40010000"
    ∷ "w 0 0x40010000 0x50000003"
    ∷ "end 19"
    ∷ []) ≡ codes "accepted 19 events\n"
unfolding judged
guest_page_flushed = refl

-- A block of 2 MiB maps a table in its last page.
pub block_2mib_last_page : judged (
    "bbmlog 5 hyp 1 1 1 1 isolated"
    ∷ "init 0 0x403ff000"
    ∷ "root 0 el2 - 0x403ff000"
    ∷ "init 0 0x40000000"
    ∷ "init 0 0x40001000"
    ∷ "root 0 s2 - 0x40000000"
    ∷ "msr 0 vttbr_el2 0x5000040000000"
    ∷ "isb 0"
    ∷ "w 0 0x40000000 0x40001003"
    ∷ "w 0 0x40001000 0x402007fd"
    ∷ "end 9"
    ∷ []) ≡ codes "refused line 10 rule 18 table-mapped at 0x403ff000\n"
unfolding judged
block_2mib_last_page = refl

-- A leaf of a tree that no PE has loaded maps a table.
pub tree_that_no_pe_loads : judged (
    "bbmlog 5 hyp 1 1 1 1 isolated"
    ∷ "init 0 0x40000000"
    ∷ "root 0 s2 - 0x40000000"
    ∷ "w 0 0x40000008 0x400007fd"
    ∷ "msr 0 vttbr_el2 0x5000040000000"
    ∷ "end 4"
    ∷ []) ≡ codes "refused line 4 rule 18 table-mapped at 0x40000000\n"
unfolding judged
tree_that_no_pe_loads = refl

-- A root is declared whose page has a leaf for that page itself.
pub root_has_a_leaf_for_itself : judged (
    "bbmlog 5 hyp 1 1 1 1 isolated"
    ∷ "init 0 0x40000000"
    ∷ "w 0 0x40000008 0x400007fd"
    ∷ "root 0 s2 - 0x40000000"
    ∷ "msr 0 vttbr_el2 0x5000040000000"
    ∷ "end 4"
    ∷ []) ≡ codes "refused line 4 rule 18 table-mapped at 0x40000000\n"
unfolding judged
root_has_a_leaf_for_itself = refl

-- A fresh page is linked that links a page which a guest maps.
pub table_below_is_mapped : judged (
    "bbmlog 5 hyp 1 1 1 1 isolated"
    ∷ "init 0 0x40000000"
    ∷ "init 0 0x40001000"
    ∷ "init 0 0x40002000"
    ∷ "root 0 s2 - 0x40000000"
    ∷ "msr 0 vttbr_el2 0x5000040000000"
    ∷ "isb 0"
    ∷ "w 0 0x40000000 0x40001003"
    ∷ "w 0 0x40001000 0x40002003"
    ∷ "w 0 0x40002000 0x500007ff"
    ∷ "init 0 0x50000000"
    ∷ "init 0 0x40011000"
    ∷ "w 0 0x40011000 0x50000003"
    ∷ "init 0 0x40010000"
    ∷ "root 0 el2 - 0x40010000"
    ∷ "w 0 0x40010000 0x40011003"
    ∷ "end 15"
    ∷ []) ≡ codes "refused line 16 rule 18 table-mapped at 0x50000000\n"
unfolding judged
table_below_is_mapped = refl

-- A leaf of EL2 may map a table: stage 2 alone counts.
pub leaf_of_el2_maps_a_table : judged (
    "bbmlog 5 hyp 1 1 1 1 isolated"
    ∷ "init 0 0x40010000"
    ∷ "init 0 0x40011000"
    ∷ "init 0 0x40012000"
    ∷ "root 0 el2 - 0x40010000"
    ∷ "w 0 0x40010000 0x40011003"
    ∷ "w 0 0x40011000 0x40012003"
    ∷ "w 0 0x40012000 0x40010703"
    ∷ "end 7"
    ∷ []) ≡ codes "accepted 7 events\n"
unfolding judged
leaf_of_el2_maps_a_table = refl

-- Without the word `isolated` a guest's page may become a table before the flush.
pub guest_page_not_flushed_without_the_word : judged (
    "bbmlog 5 hyp 1 1 1 1"
    ∷ "init 0 0x40000000"
    ∷ "init 0 0x40001000"
    ∷ "init 0 0x40002000"
    ∷ "root 0 s2 - 0x40000000"
    ∷ "msr 0 vttbr_el2 0x5000040000000"
    ∷ "isb 0"
    ∷ "w 0 0x40000000 0x40001003"
    ∷ "w 0 0x40001000 0x40002003"
    ∷ "w 0 0x40002000 0x500007ff"
    ∷ "w 0 0x40002000 0x0"
    ∷ "dsb 0 ishst"
    ∷ "init 0 0x50000000"
    ∷ "init 0 0x40010000"
    ∷ "root 0 el2 - 0x40010000"
    ∷ "w 0 0x40010000 0x50000003"
    ∷ "end 15"
    ∷ []) ≡ codes "accepted 15 events\n"
unfolding judged
guest_page_not_flushed_without_the_word = refl
