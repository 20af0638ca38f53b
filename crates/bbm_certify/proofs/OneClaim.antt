-- What a list of claims allows, and the positions that a claim names.
use Rattle.bbm_certify.proofs.Common.{allows, Known}
use Rattle.bbm_rules.proofs.Common.{◌≡◌, ℕ, true, false, List, [], ◌∷◌, Contains, refl, sym, inl, inr, true≢false}
use Rattle.bbm_rules.proofs.Common.{or_cases, or_left, Claim, Place, Two, Taken, same_claim, Listed, Heading, any_finds}
use Rattle.bbm_rules.proofs.Common.{from_contains}

-- the positions that a claim names, but the last of a tag
abbrev pub named : Claim → List ℕ
named (Place p a b t d) = b ∷ t ∷ d ∷ []
named (Two p a b t1 d1 t2 d2) = b ∷ t1 ∷ d1 ∷ t2 ∷ d2 ∷ []
named (Taken p tag t d) = t ∷ []

module _ (heading : Heading) (known : Known heading) where
  -- a list with one claim allows this claim alone
  pub only_this : (c d : Claim) → allows (Listed (c ∷ [])) d ≡ true → c ≡ d
  only_this c d e =
      elim (or_cases (same_claim c d) false e) [
        | inl same ↦ (known.equality_tests.claims c d).0 same
        | inr none ↦ absurd (true≢false (sym none))
      ]

  pub this : (c : Claim) → allows (Listed (c ∷ [])) c ≡ true
  this c = or_left (same_claim c c) false ((known.equality_tests.claims c c).1 refl)

  pub listed : (cs : List Claim) (c d : Claim) → Contains cs c → c ≡ d → allows (Listed cs) d ≡ true
  listed cs c d has same =
      any_finds (λ (x : Claim). same_claim x d) cs c (from_contains cs c has) ((known.equality_tests.claims c d).1 same)
