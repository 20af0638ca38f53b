-- Worked cases: logs judged by a certificate, the list of the claims that may be used.
use Rattle.bbm_rules.proofs.Common.{codes, String, Place, Two, Taken}
use Rattle.std.specs.Prelude.{◌≡◌, List, [], ◌∷◌, refl}
use Rattle.bbm_regimes.specs.declared.regime.Tag.TheVariants.{El2, Vmid, Asid, Ttbr1}
use Rattle.bbm_rules.proofs.Judged.{judged_by}

-- a block is moved by the whole sequence
abbrev pub remap : List String
remap =
    "bbmlog 1 hyp 2 1 1 1"
    ∷ "init 0 0x40000000"
    ∷ "root 0 el2 - 0x40000000"
    ∷ "w 0 0x40000008 0x80000701"
    ∷ "dsb 0 ishst"
    ∷ "w 0 0x40000008 0x0"
    ∷ "dsb 0 ishst"
    ∷ "tlbi 0 vae2is 0x40000"
    ∷ "dsb 0 ish"
    ∷ "w 0 0x40000008 0xc0000701"
    ∷ "end 9"
    ∷ []

-- a stage 2 block is moved by two flushes
abbrev pub two_steps : List String
two_steps =
    "bbmlog 1 hyp 2 1 1 1"
    ∷ "init 0 0x40002000"
    ∷ "root 0 s2 - 0x40002000"
    ∷ "msr 0 vttbr_el2 0x5000040002000"
    ∷ "isb 0"
    ∷ "w 0 0x40002008 0x800007fd"
    ∷ "w 0 0x40002008 0x0"
    ∷ "dsb 0 ishst"
    ∷ "tlbi 0 ipas2e1is 0x40000"
    ∷ "dsb 0 ish"
    ∷ "tlbi 0 vmalle1is"
    ∷ "dsb 0 ish"
    ∷ "w 0 0x40002008 0xc00007fd"
    ∷ "end 12"
    ∷ []

-- another root is taken after the first was flushed
abbrev pub switch : List String
switch =
    "bbmlog 1 hyp 2 1 1 1"
    ∷ "init 0 0x40000000"
    ∷ "root 0 el2 - 0x40000000"
    ∷ "init 0 0x40001000"
    ∷ "root 0 el2 - 0x40001000"
    ∷ "msr 0 ttbr0_el2 0x40000000"
    ∷ "isb 0"
    ∷ "msr 0 ttbr0_el2 0x0"
    ∷ "isb 0"
    ∷ "tlbi 0 alle2is"
    ∷ "dsb 0 ish"
    ∷ "msr 0 ttbr0_el2 0x40001000"
    ∷ "end 11"
    ∷ []

-- an ASID goes to another root after it was flushed
abbrev pub reuse : List String
reuse =
    "bbmlog 1 kernel 2 1 1 ttbr0"
    ∷ "init 0 0x40000000"
    ∷ "init 0 0x40001000"
    ∷ "root 0 ttbr0 - 0x40000000"
    ∷ "root 0 ttbr0 - 0x40001000"
    ∷ "msr 0 ttbr0_el1 0x5000040000000"
    ∷ "isb 0"
    ∷ "msr 0 ttbr0_el1 0x0"
    ∷ "isb 0"
    ∷ "tlbi 0 aside1is 0x5000000000000"
    ∷ "dsb 0 ish"
    ∷ "msr 1 ttbr0_el1 0x5000040001000"
    ∷ "end 11"
    ∷ []

-- The claims name the publication, the TLBI and its answer at each of the two PEs.
pub verify_the_cert :
    judged_by (Place 0 0x40000008 6 7 8 ∷ Place 1 0x40000008 6 7 8 ∷ []) remap
    ≡ codes "accepted 9 events\n"
unfolding judged_by
verify_the_cert = refl

-- Nothing is claimed of PE 1.
pub verify_with_a_claim_missing :
    judged_by (Place 0 0x40000008 6 7 8 ∷ []) remap
    ≡ codes "refused line 10 rule 4 break-before-make at 0x40000008\n"
unfolding judged_by
verify_with_a_claim_missing = refl

-- The DSB at 4 came before the clear, so it publishes nothing of it.
pub verify_with_a_wrong_position :
    judged_by (Place 0 0x40000008 4 7 8 ∷ Place 1 0x40000008 6 7 8 ∷ []) remap
    ≡ codes "refused line 10 rule 4 break-before-make at 0x40000008\n"
unfolding judged_by
verify_with_a_wrong_position = refl

-- Both claims are of PE 1.
pub claims_of_one_pe_twice :
    judged_by (Place 1 0x40000008 6 7 8 ∷ Place 1 0x40000008 6 7 8 ∷ []) remap
    ≡ codes "refused line 10 rule 4 break-before-make at 0x40000008\n"
unfolding judged_by
claims_of_one_pe_twice = refl

-- The claim of PE 0 names another place.
pub claims_of_another_place :
    judged_by (Place 0 0x40000010 6 7 8 ∷ Place 1 0x40000008 6 7 8 ∷ []) remap
    ≡ codes "refused line 10 rule 4 break-before-make at 0x40000008\n"
unfolding judged_by
claims_of_another_place = refl

-- It names another event as the TLBI.
pub claims_with_a_wrong_tlbi :
    judged_by (Place 0 0x40000008 6 6 8 ∷ Place 1 0x40000008 6 7 8 ∷ []) remap
    ≡ codes "refused line 10 rule 4 break-before-make at 0x40000008\n"
unfolding judged_by
claims_with_a_wrong_tlbi = refl

-- It names another event as the answer.
pub claims_with_a_wrong_answer :
    judged_by (Place 0 0x40000008 6 7 9 ∷ Place 1 0x40000008 6 7 8 ∷ []) remap
    ≡ codes "refused line 10 rule 4 break-before-make at 0x40000008\n"
unfolding judged_by
claims_with_a_wrong_answer = refl

-- The claims name the publication and both flushes with their answers.
pub claims_of_two_steps :
    judged_by (Two 0 0x40002008 7 8 9 10 11 ∷ Two 1 0x40002008 7 8 9 10 11 ∷ []) two_steps
    ≡ codes "accepted 12 events\n"
unfolding judged_by
claims_of_two_steps = refl

-- Nothing is claimed of PE 0.
pub claims_of_two_steps_missing :
    judged_by (Two 1 0x40002008 7 8 9 10 11 ∷ []) two_steps
    ≡ codes "refused line 13 rule 4 break-before-make at 0x40002008\n"
unfolding judged_by
claims_of_two_steps_missing = refl

-- The first flush alone is claimed.
pub claims_of_two_steps_as_one :
    judged_by (Place 0 0x40002008 7 8 9 ∷ Two 1 0x40002008 7 8 9 10 11 ∷ []) two_steps
    ≡ codes "refused line 13 rule 4 break-before-make at 0x40002008\n"
unfolding judged_by
claims_of_two_steps_as_one = refl

-- The claim of PE 0 names another place.
pub claims_of_two_steps_of_another_place :
    judged_by (Two 0 0x40002010 7 8 9 10 11 ∷ Two 1 0x40002008 7 8 9 10 11 ∷ []) two_steps
    ≡ codes "refused line 13 rule 4 break-before-make at 0x40002008\n"
unfolding judged_by
claims_of_two_steps_of_another_place = refl

-- Its publication is wrong.
pub claims_of_two_steps_wrong :
    judged_by (Two 0 0x40002008 6 8 9 10 11 ∷ Two 1 0x40002008 7 8 9 10 11 ∷ []) two_steps
    ≡ codes "refused line 13 rule 4 break-before-make at 0x40002008\n"
unfolding judged_by
claims_of_two_steps_wrong = refl

-- Its first flush is wrong.
pub claims_of_two_steps_wrong_first :
    judged_by (Two 0 0x40002008 7 7 9 10 11 ∷ Two 1 0x40002008 7 8 9 10 11 ∷ []) two_steps
    ≡ codes "refused line 13 rule 4 break-before-make at 0x40002008\n"
unfolding judged_by
claims_of_two_steps_wrong_first = refl

-- The answer of its first flush is wrong.
pub claims_of_two_steps_wrong_first_answer :
    judged_by (Two 0 0x40002008 7 8 11 10 11 ∷ Two 1 0x40002008 7 8 9 10 11 ∷ []) two_steps
    ≡ codes "refused line 13 rule 4 break-before-make at 0x40002008\n"
unfolding judged_by
claims_of_two_steps_wrong_first_answer = refl

-- Its second flush is wrong.
pub claims_of_two_steps_wrong_second :
    judged_by (Two 0 0x40002008 7 8 9 8 11 ∷ Two 1 0x40002008 7 8 9 10 11 ∷ []) two_steps
    ≡ codes "refused line 13 rule 4 break-before-make at 0x40002008\n"
unfolding judged_by
claims_of_two_steps_wrong_second = refl

-- The answer of its second flush is wrong.
pub claims_of_two_steps_wrong_second_answer :
    judged_by (Two 0 0x40002008 7 8 9 10 9 ∷ Two 1 0x40002008 7 8 9 10 11 ∷ []) two_steps
    ≡ codes "refused line 13 rule 4 break-before-make at 0x40002008\n"
unfolding judged_by
claims_of_two_steps_wrong_second_answer = refl

-- The claim names the TLBI that takes the tag away and its answer.
pub claim_of_a_tag :
    judged_by (Taken 0 El2 9 10 ∷ []) switch
    ≡ codes "accepted 11 events\n"
unfolding judged_by
claim_of_a_tag = refl

-- Nothing is claimed of the tag.
pub claim_of_a_tag_missing :
    judged_by [] switch
    ≡ codes "refused line 12 rule 12 tag-conflict at 0x40000000\n"
unfolding judged_by
claim_of_a_tag_missing = refl

-- It is claimed of PE 1.
pub claim_of_a_tag_at_another_pe :
    judged_by (Taken 1 El2 9 10 ∷ []) switch
    ≡ codes "refused line 12 rule 12 tag-conflict at 0x40000000\n"
unfolding judged_by
claim_of_a_tag_at_another_pe = refl

-- Another tag is claimed.
pub claim_of_another_tag :
    judged_by (Taken 0 Ttbr1 9 10 ∷ []) switch
    ≡ codes "refused line 12 rule 12 tag-conflict at 0x40000000\n"
unfolding judged_by
claim_of_another_tag = refl

-- The claim names another event as the TLBI.
pub claim_of_a_tag_wrong_tlbi :
    judged_by (Taken 0 El2 8 10 ∷ []) switch
    ≡ codes "refused line 12 rule 12 tag-conflict at 0x40000000\n"
unfolding judged_by
claim_of_a_tag_wrong_tlbi = refl

-- The claim names another event as the answer.
pub claim_of_a_tag_wrong :
    judged_by (Taken 0 El2 9 11 ∷ []) switch
    ≡ codes "refused line 12 rule 12 tag-conflict at 0x40000000\n"
unfolding judged_by
claim_of_a_tag_wrong = refl

-- The claim names the ASID that is taken away.
pub claim_of_an_asid :
    judged_by (Taken 0 (Asid 5) 9 10 ∷ []) reuse
    ≡ codes "accepted 11 events\n"
unfolding judged_by
claim_of_an_asid = refl

-- It names another ASID.
pub claim_of_another_asid :
    judged_by (Taken 0 (Asid 6) 9 10 ∷ []) reuse
    ≡ codes "refused line 12 rule 12 tag-conflict at 0x40000000\n"
unfolding judged_by
claim_of_another_asid = refl

-- It names the VMID of that number.
pub claim_of_a_vmid_of_that_number :
    judged_by (Taken 0 (Vmid 5) 9 10 ∷ []) reuse
    ≡ codes "refused line 12 rule 12 tag-conflict at 0x40000000\n"
unfolding judged_by
claim_of_a_vmid_of_that_number = refl
