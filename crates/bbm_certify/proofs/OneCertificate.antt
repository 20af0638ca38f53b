-- A log has one certificate at most: what is due at an event has one order.
use Rattle.bbm_certify.proofs.Common.{Ascending, IsCertificate, claim_key, less}
use Rattle.bbm_rules.proofs.Common.{◌≡◌, ℕ, true, false, List, [], ◌∷◌, refl, sym, nat_tests, arith, ◌∙◌, ap, inl, inr}
use Rattle.bbm_rules.proofs.Common.{true≢false, Claim, Heading, Event, from_contains, to_contains, In}

-- ---- the order is one

pub less_itself : (ns : List ℕ) → less ns ns ≡ false
less_itself [] = refl
less_itself (n ∷ ns) = grind (arith, nat_tests, less_itself ns)

less_through : (ms ns os : List ℕ) → less ms ns ≡ true → less ns os ≡ true → less ms os ≡ true
less_through (m ∷ ms) (n ∷ ns) (o ∷ os) a b = grind (arith, nat_tests, less_through ms ns os)
less_through ms ns os a b = absurd (cc)

-- ---- two lists in this order with the same claims

pub rest : (c : Claim) (cs : List Claim) → Ascending (c ∷ cs) → Ascending cs
rest c [] a = tt
rest c (d ∷ cs) a = a.1

pub above : (c : Claim) (cs : List Claim) (x : Claim) → Ascending (c ∷ cs) → In cs x → less (claim_key c) (claim_key x) ≡ true
above c [] x a i = absurd i
above c (d ∷ cs) x a (inl same) = ap (λ (y : Claim). less (claim_key c) (claim_key y)) (sym same) ∙ a.0
above c (d ∷ cs) x a (inr i) = less_through (claim_key c) (claim_key d) (claim_key x) a.0 (above d cs x a.1 i)

-- a claim comes before no claim that is the same
apart : (c x : Claim) → c ≡ x → less (claim_key c) (claim_key x) ≡ true → ⊥
apart c x same k =
    true≢false (sym k ∙ (ap (λ (y : Claim). less (claim_key c) (claim_key y)) (sym same) ∙ less_itself (claim_key c)))

same_head : (c d : Claim) (cs ds : List Claim) → Ascending (c ∷ cs) → Ascending (d ∷ ds) → In (d ∷ ds) c → In (c ∷ cs) d
    → c ≡ d
same_head c d cs ds a b (inl same) j = sym same
same_head c d cs ds a b i (inl same) = same
same_head c d cs ds a b (inr i) (inr j) =
    absurd (apart c c refl (less_through (claim_key c) (claim_key d) (claim_key c) (above c cs d a j) (above d ds c b i)))

-- what is in the rest of the one is in the rest of the other
in_rest : (c d x : Claim) (cs ds : List Claim) → Ascending (c ∷ cs) → c ≡ d → In cs x → In (d ∷ ds) x → In ds x
in_rest c d x cs ds a same i (inl head) = absurd (apart c x (same ∙ head) (above c cs x a i))
in_rest c d x cs ds a same i (inr j) = j

same_list : (cs ds : List Claim) → Ascending cs → Ascending ds → ((c : Claim) → In cs c → In ds c)
    → ((c : Claim) → In ds c → In cs c) → cs ≡ ds
same_list [] [] a b to from = refl
same_list [] (d ∷ ds) a b to from = absurd (from d (inl refl))
same_list (c ∷ cs) [] a b to from = absurd (to c (inl refl))
same_list (c ∷ cs) (d ∷ ds) a b to from =
    let head : c ≡ d = same_head c d cs ds a b (to c (inl refl)) (from d (inl refl)) in
    ap (λ (x : Claim). x ∷ cs) head
    ∙ ap (λ (xs : List Claim). d ∷ xs) (same_list cs ds (rest c cs a) (rest d ds b)
    (λ x i. in_rest c d x cs ds a head i (to x (inr i)))
    (λ x i. in_rest d c x ds cs b (sym head) i (from x (inr i))))

-- ---- certificates

pub one_certificate : (heading : Heading) (h : List Event) (claims others : List Claim) → IsCertificate heading h claims
    → IsCertificate heading h others → claims ≡ others
one_certificate heading [] claims others a b = a ∙ sym b
one_certificate heading (e ∷ h) claims others a b =
    let before : a.0 ≡ b.0 = one_certificate heading h a.0 b.0 a.3 b.3 in
    let due : a.1 ≡ b.1 = same_list a.1 b.1 a.4 b.4
    (λ c i. from_contains b.1 c (b.6 c (a.5 c (to_contains a.1 c i))))
    (λ c i. from_contains a.1 c (a.6 c (b.5 c (to_contains b.1 c i)))) in
    cc (a.2, b.2)
