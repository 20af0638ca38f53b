-- Worked cases: what each version of a log has, the last lock, and a DSB for loads.
use Rattle.bbm_rules.proofs.Common.{codes}
use Rattle.std.specs.Prelude.{◌≡◌, [], ◌∷◌, refl}
use Rattle.bbm_report.proofs.CaseWords.{told}

-- Version 2 has no labels.
pub label_under_version_2 : told (
    "bbmlog 2 hyp 2 1 1 1 -"
    ∷ "isb 0 @a"
    ∷ "end 1"
    ∷ []) [] ≡ codes "malformed line 2 cause 8 ExtraField\n"
unfolding told
label_under_version_2 = refl

-- A label has up to 32 bytes.
pub label_of_32_bytes : told (
    "bbmlog 3 hyp 2 1 1 1 -"
    ∷ "isb 0 @abcdefghijklmnopqrstuvwxyz012345"
    ∷ "end 1"
    ∷ []) [] ≡ codes "accepted 1 events\n"
unfolding told
label_of_32_bytes = refl

-- And no more.
pub label_of_33_bytes : told (
    "bbmlog 3 hyp 2 1 1 1 -"
    ∷ "isb 0 @abcdefghijklmnopqrstuvwxyz0123456"
    ∷ "end 1"
    ∷ []) [] ≡ codes "malformed line 2 cause 13 BadLabel\n"
unfolding told
label_of_33_bytes = refl

-- Version 3 has no operations for a range of pages.
pub range_tlbi_under_version_3 : told (
    "bbmlog 3 hyp 2 1 1 1 -"
    ∷ "tlbi 0 rvae2is 0x718000040000"
    ∷ "end 1"
    ∷ []) [] ≡ codes "malformed line 2 cause 3 UnknownWord\n"
unfolding told
range_tlbi_under_version_3 = refl

-- Version 2 has at most 64 PEs.
pub header_of_128_pes_under_version_2 : told (
    "bbmlog 2 hyp 128 1 1 1 -"
    ∷ "end 0"
    ∷ []) [] ≡ codes "malformed line 1 cause 2 BadHeader\n"
unfolding told
header_of_128_pes_under_version_2 = refl

-- Version 4 has shared TLBs, as versions 2 and 3.
pub cnp_under_version_4 : told (
    "bbmlog 4 hyp 2 1 1 1 cnp"
    ∷ "end 0"
    ∷ []) [] ≡ codes "accepted 0 events\n"
unfolding told
cnp_under_version_4 = refl

-- The last lock.
pub lock_1023 : told (
    "bbmlog 1 hyp 2 1 1 1"
    ∷ "lock 0 1023"
    ∷ "end 1"
    ∷ []) [] ≡ codes "accepted 1 events\n"
unfolding told
lock_1023 = refl

-- There is no other.
pub lock_1024 : told (
    "bbmlog 1 hyp 2 1 1 1"
    ∷ "lock 0 1024"
    ∷ "end 1"
    ∷ []) [] ≡ codes "malformed line 2 cause 4 BadNumber\n"
unfolding told
lock_1024 = refl

-- A DSB for loads publishes nothing, in the outer shareable domain too.
pub outer_shareable_load_dsb_publishes_nothing : told (
    "bbmlog 1 hyp 2 1 1 1"
    ∷ "init 0 0x40000000"
    ∷ "root 0 el2 - 0x40000000"
    ∷ "w 0 0x40000008 0x80000701"
    ∷ "w 0 0x40000008 0x0"
    ∷ "dsb 0 oshld"
    ∷ "tlbi 0 alle2is"
    ∷ "dsb 0 ish"
    ∷ "w 0 0x40000008 0xc0000701"
    ∷ "end 8"
    ∷ []) [] ≡ codes "refused line 9 rule 4 break-before-make at 0x40000008\n"
unfolding told
outer_shareable_load_dsb_publishes_nothing = refl
