-- Where nothing waits.
use Rattle.bbm_place_map.proofs.Common.{◌≡◌, ℕ, Bool, true, false, ◌==◌, List, [], Option, Some, None, refl, ap, ◌∙◌}
use Rattle.bbm_place_map.proofs.Common.{slice_get, Cover, waits, waits_in, IsIdle, Pends, no_pend, no_pends, pends_of}
use Rattle.bbm_place_map.proofs.Common.{entry_of, slot_in, pends_for, IsQuiet, Entry, at_index, NoCover}
use Rattle.std.proofs.lemmas.Nat.Bits.{bit_at-zero}
use Rattle.bbm_regimes.specs.PeMask.{pe_in}

no_pe : (p : ℕ) → pe_in (record { bits = 0 }) p ≡ false
unfolding pe_in
no_pe p = ap (λ (n : ℕ). n == 1) (bit_at-zero p)

pub nothing_waits : (b : Bool) (c : Cover) (p : ℕ) → waits no_pends b c p ≡ false
nothing_waits true NoCover p = refl
nothing_waits false NoCover p = refl
nothing_waits _ _ p = no_pe p

pub no_pe_waits : (c : Cover) (p : ℕ) → waits_in no_pend c p ≡ false
no_pe_waits NoCover p = refl
no_pe_waits _ p = no_pe p

pub idle_from : (x : Pends) → x ≡ no_pends → IsIdle x
idle_from x is b c p = ap (λ (y : Pends). waits y b c p) is ∙ nothing_waits b c p

-- where nothing waits
pub quiet_from : (wide : Bool) (x : Pends) → IsIdle x → IsQuiet wide x
quiet_from wide x idle b c p _ = idle b c p

none_left : (q : ℕ) (entries : List Entry) → entries ≡ [] → (o : Option ℕ) → pends_of q (entry_of entries o) ≡ no_pends
none_left q entries none None = refl
none_left q entries none (Some k) = ap (λ (es : List Entry). pends_of q (slice_get es k)) none

pub none_kept : (q : ℕ) (cells : List ℕ) (entries : List Entry) → entries ≡ [] → (o : Option ℕ)
    → IsIdle (at_index no_pends (pends_for cells entries q) o)
none_kept q cells entries none None = idle_from no_pends refl
none_kept q cells entries none (Some j) = idle_from (pends_for cells entries q j) (none_left q entries none (slot_in cells j))
