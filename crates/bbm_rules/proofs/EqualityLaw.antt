-- The tests for equality of tags, registers, kinds and claims decide equality.
use Rattle.bbm_rules.proofs.Common.{◌≡◌, ◌↔◌, ℕ, true, ◌&&◌, ◌==◌, sym, ◌∙◌, ap, true≢false, and_parts, eqb-true, Kind}
use Rattle.bbm_rules.proofs.Common.{Claim, Place, Two, Taken, same_claim, same_tag, same_reg, same_kind}
use Rattle.bbm_lemmas.proofs.Words.{same_number}
use Rattle.bbm_regimes.specs.declared.regime.Reg.{Reg}
use Rattle.bbm_regimes.specs.declared.regime.Tag.{Tag}
use Rattle.bbm_rules.proofs.SameRegister.{tag_self, tag_equal, reg_self, reg_equal, kind_self, kind_equal}

pub claim_self : (c : Claim) → same_claim c c ≡ true
claim_self (Place p a b t d) = simp same_number
claim_self (Two p a b t1 d1 t2 d2) = simp same_number
claim_self (Taken p g t d) = simp (same_number, tag_self)

-- the claims with equal parts
place_equal : (p p' a a' b b' t t' d d' : ℕ) → (p == p' && a == a' && b == b' && t == t' && d == d') ≡ true
    → Place p a b t d ≡ Place p' a' b' t' d'
place_equal p p' a a' b b' t t' d d' e =
    let e4 = and_parts (p == p' && a == a' && b == b' && t == t') (d == d') e in
    let e3 = and_parts (p == p' && a == a' && b == b') (t == t') e4.0 in
    let e2 = and_parts (p == p' && a == a') (b == b') e3.0 in
    let e1 = and_parts (p == p') (a == a') e2.0 in
    let f0 : p ≡ p' = eqb-true p p' e1.0 in
    let f1 : a ≡ a' = eqb-true a a' e1.1 in
    let f2 : b ≡ b' = eqb-true b b' e2.1 in
    let f3 : t ≡ t' = eqb-true t t' e3.1 in
    let f4 : d ≡ d' = eqb-true d d' e4.1 in
    cc

two_equal : (p p' a a' b b' t1 t1' d1 d1' t2 t2' d2 d2' : ℕ)
    → (p == p' && a == a' && b == b' && t1 == t1' && d1 == d1' && t2 == t2' && d2 == d2') ≡ true
    → Two p a b t1 d1 t2 d2 ≡ Two p' a' b' t1' d1' t2' d2'
two_equal p p' a a' b b' t1 t1' d1 d1' t2 t2' d2 d2' e =
    let e6 = and_parts (p == p' && a == a' && b == b' && t1 == t1' && d1 == d1' && t2 == t2') (d2 == d2') e in
    let e5 = and_parts (p == p' && a == a' && b == b' && t1 == t1' && d1 == d1') (t2 == t2') e6.0 in
    let first : Place p a b t1 d1 ≡ Place p' a' b' t1' d1' = place_equal p p' a a' b b' t1 t1' d1 d1' e5.0 in
    let f5 : t2 ≡ t2' = eqb-true t2 t2' e5.1 in
    let f6 : d2 ≡ d2' = eqb-true d2 d2' e6.1 in
    cc

taken_equal : (p p' : ℕ) (g g' : Tag) (t t' d d' : ℕ) → (p == p' && same_tag g g' && t == t' && d == d') ≡ true
    → Taken p g t d ≡ Taken p' g' t' d'
taken_equal p p' g g' t t' d d' e =
    let e3 = and_parts (p == p' && same_tag g g' && t == t') (d == d') e in
    let e2 = and_parts (p == p' && same_tag g g') (t == t') e3.0 in
    let e1 = and_parts (p == p') (same_tag g g') e2.0 in
    let f0 : p ≡ p' = eqb-true p p' e1.0 in
    let f1 : g ≡ g' = tag_equal g g' e1.1 in
    let f2 : t ≡ t' = eqb-true t t' e2.1 in
    let f3 : d ≡ d' = eqb-true d d' e3.1 in
    cc

pub claim_equal : (c k : Claim) → same_claim c k ≡ true → c ≡ k
claim_equal (Place p a b t d) (Place p' a' b' t' d') e = place_equal p p' a a' b b' t t' d d' e
claim_equal (Two p a b t1 d1 t2 d2) (Two p' a' b' t1' d1' t2' d2') e =
    two_equal p p' a a' b b' t1 t1' d1 d1' t2 t2' d2 d2' e
claim_equal (Taken p g t d) (Taken p' g' t' d') e = taken_equal p p' g g' t t' d d' e
claim_equal c k e = absurd (true≢false (sym e))

pub tags : (g k : Tag) → (same_tag g k ≡ true) ↔ (g ≡ k)
tags g k = (tag_equal g k, λ e. sym (ap (same_tag g) e) ∙ tag_self g)

pub regs : (r s : Reg) → (same_reg r s ≡ true) ↔ (r ≡ s)
regs r s = (reg_equal r s, λ e. sym (ap (same_reg r) e) ∙ reg_self r)

pub kinds : (k l : Kind) → (same_kind k l ≡ true) ↔ (k ≡ l)
kinds k l = (kind_equal k l, λ e. sym (ap (same_kind k) e) ∙ kind_self k)

pub claims : (c k : Claim) → (same_claim c k ≡ true) ↔ (c ≡ k)
claims c k = (claim_equal c k, λ e. sym (ap (same_claim c) e) ∙ claim_self c)
