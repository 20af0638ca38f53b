-- Worked cases: what stands behind the last line, and how large a count may be.
use Rattle.bbm_rules.proofs.Common.{codes}
use Rattle.std.specs.Prelude.{◌≡◌, ℕ, List, [], ◌∷◌, ◌++◌, refl}
use Rattle.bbm_report.proofs.CaseWords.{told}

abbrev hundred : List ℕ
hundred = codes "aaaaaaaaaaaaaaaaaaaaaaaaaaaaaaaaaaaaaaaaaaaaaaaaaaaaaaaaaaaaaaaaaaaaaaaaaaaaaaaaaaaaaaaaaaaaaaaaaaaa"

-- A line behind the last one is no more than that, however long it is.
pub long_line_after_the_end : told (
    "bbmlog 1 hyp 2 1 1 1"
    ∷ "end 0"
    ∷ []) (hundred ++ hundred ++ codes "a\n") ≡ codes "malformed line 3 cause 11 AfterEnd\n"
unfolding told
long_line_after_the_end = refl

-- So are bytes without a newline.
pub long_rest_after_the_end : told (
    "bbmlog 1 hyp 2 1 1 1"
    ∷ "end 0"
    ∷ []) (hundred ++ hundred ++ codes "a") ≡ codes "malformed line 3 cause 11 AfterEnd\n"
unfolding told
long_rest_after_the_end = refl

-- And one of them.
pub one_byte_after_the_end : told (
    "bbmlog 1 hyp 2 1 1 1"
    ∷ "end 0"
    ∷ []) (codes "a") ≡ codes "malformed line 3 cause 11 AfterEnd\n"
unfolding told
one_byte_after_the_end = refl

-- A count has up to 32 bits, and this one is wrong.
pub count_of_32_bits : told (
    "bbmlog 1 hyp 2 1 1 1"
    ∷ "end 4294967295"
    ∷ []) [] ≡ codes "malformed line 2 cause 10 WrongCount\n"
unfolding told
count_of_32_bits = refl

-- And no more.
pub count_of_33_bits : told (
    "bbmlog 1 hyp 2 1 1 1"
    ∷ "end 4294967296"
    ∷ []) [] ≡ codes "malformed line 2 cause 4 BadNumber\n"
unfolding told
count_of_33_bits = refl
