-- Whether nothing waits, by masks.
use Rattle.bbm_place_map.proofs.Common.{◌≡◌, ℕ, Bool, true, false, ◌||◌, ◌↔◌, IsTrue, refl, sym, ◌∙◌, PeMask, Cover}
use Rattle.bbm_place_map.proofs.Common.{Half, Second, Full, waits, waits_in, Pend, Pends, IsQuiet, false≢true, pe_in}
use Rattle.bbm_place_map.proofs.Common.{NoCover}
use Rattle.std.proofs.lemmas.Bool.{or_from}
use Rattle.bbm_lemmas.proofs.Bools.{first_none, second_none}

module _ (pend : Pend) (m m' : PeMask) (is : (p : ℕ) → pe_in m p ≡ (pe_in pend.half p || pe_in pend.second p))
    (is' : (p : ℕ) → pe_in m' p ≡ (pe_in m p || pe_in pend.full p)) where
  two_none : ((p : ℕ) → pe_in m' p ≡ false) → (p : ℕ) → (pe_in pend.half p || pe_in pend.second p) ≡ false
  two_none none p = sym (is p) ∙ first_none (pe_in m p) (pe_in pend.full p) (sym (is' p) ∙ none p)

  each_none : ((p : ℕ) → pe_in m' p ≡ false) → (c : Cover) (p : ℕ) → waits_in pend c p ≡ false
  each_none none NoCover p = refl
  each_none none Half p = first_none (pe_in pend.half p) (pe_in pend.second p) (two_none none p)
  each_none none Second p = second_none (pe_in pend.half p) (pe_in pend.second p) (two_none none p)
  each_none none Full p = second_none (pe_in m p) (pe_in pend.full p) (sym (is' p) ∙ none p)

  pub none_iff : (r : Bool) → (IsTrue r ↔ ((p : ℕ) → pe_in m' p ≡ false)) → IsTrue r ↔ ((c : Cover) (p : ℕ) → waits_in pend c p ≡ false)
  none_iff r tells = (
    λ t. each_none (tells.0 t),
    λ h. tells.1 (λ p.
        is' p
        ∙ or_from (pe_in m p) (pe_in pend.full p) (is p ∙ or_from (pe_in pend.half p) (pe_in pend.second p) (h Half p) (h Second p)) (h Full p)),
  )

module _ (pends : Pends) (both : Pend)
    (is : (c : Cover) (p : ℕ) → waits_in both c p ≡ (waits_in pends.broadcast c p || waits_in pends.local c p)) where
  each_idle : ((c : Cover) (p : ℕ) → waits_in both c p ≡ false) → (b : Bool) (c : Cover) (p : ℕ) → waits pends b c p ≡ false
  each_idle none true c p = first_none (waits_in pends.broadcast c p) (waits_in pends.local c p) (sym (is c p) ∙ none c p)
  each_idle none false c p = second_none (waits_in pends.broadcast c p) (waits_in pends.local c p) (sym (is c p) ∙ none c p)

  pub quiet_iff : (r : Bool) → (IsTrue r ↔ ((c : Cover) (p : ℕ) → waits_in both c p ≡ false)) → IsTrue r ↔ IsQuiet true pends
  quiet_iff r tells = (
    λ t b c p _. each_idle (tells.0 t) b c p,
    λ h. tells.1 (λ c p. is c p ∙ or_from (waits_in pends.broadcast c p) (waits_in pends.local c p) (h true c p refl) (h false c p refl)),
  )

local_quiet : (pends : Pends) → ((c : Cover) (p : ℕ) → waits_in pends.local c p ≡ false) → IsQuiet false pends
local_quiet pends none true c p is = absurd (false≢true is)
local_quiet pends none false c p is = none c p

pub local_iff : (pends : Pends) (r : Bool) → (IsTrue r ↔ ((c : Cover) (p : ℕ) → waits_in pends.local c p ≡ false)) → IsTrue r ↔ IsQuiet false pends
local_iff pends r tells = (λ t. local_quiet pends (tells.0 t), λ h. tells.1 (λ c p. h false c p refl))
