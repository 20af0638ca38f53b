-- What is cleansed, claim by claim: every place that is cleansed by a pattern has a least claim of it, in one step where
-- there is one, and a list of claims that has this claim cleanses the place, too.
use Rattle.bbm_certify.proofs.Common.{allows, Known, IsLeast, IsLeastClaim, OneAt, TwoAt}
use Rattle.bbm_rules.proofs.Common.{◌≡◌, ◌⊎◌, ℕ, Bool, true, List, [], ◌∷◌, ◌++◌, map, get_or, Contains, refl, sym, ◌∙◌}
use Rattle.bbm_rules.proofs.Common.{ap, subst, inl, inr, Claim, Place, Two, Taken, Trust, Patterns, Listed, cleansed}
use Rattle.bbm_rules.proofs.Common.{Noted, Answer, OneStep, Publication, TwoSteps, Heading, Issued, in_map, In}
use Rattle.bbm_certify.proofs.OneClaim.{listed, named, only_this, this}
use Rattle.bbm_certify.proofs.LeastFound.{Over, Sized, least_or_none}
use Rattle.bbm_certify.proofs.Searches.{is_behind, is_in}

-- ---- the events of a pattern came after the last valid write

abbrev pub positions : List Noted → List ℕ
positions since = map (λ (n : Noted). n.position) since

module _ (since : List Noted) (t : Issued Noted) (d : Noted) (a : Answer since t d) where
  answer_in : In since d
  answer_in = is_in since a.newer a.older d a.split

  tlbi_in : In since t.tlbi
  tlbi_in =
      is_behind since a.newer a.older d t.tlbi a.split (is_in a.older a.is_open.newer t.before t.tlbi a.is_open.split)

  before_in : (x : Noted) → In t.before x → In since x
  before_in x i =
      is_behind since a.newer a.older d x a.split (is_behind a.older a.is_open.newer t.before t.tlbi x a.is_open.split i)

module _ (heading : Heading) (place p : ℕ) where
  barrier_in : (since : List Noted) (b : Noted) → Publication heading place p since b → In since b
  barrier_in since b k = is_in since k.newer (k.between ++ k.write ∷ k.older) b k.split

  module _ (since : List Noted) where
    at_in : (n : Noted) → In since n → In (positions since) n.position
    at_in n i = in_map (λ (n : Noted). n.position) since n i

    abbrev one_claim : OneStep heading Patterns place p since → Claim
    one_claim o = Place p place o.b.position o.t.tlbi.position o.d.position

    abbrev two_claim : TwoSteps heading Patterns place p since → Claim
    two_claim o = Two p place o.b.position o.t1.tlbi.position o.d1.position o.t2.tlbi.position o.d2.position

    pub one_over : (o : OneStep heading Patterns place p since) → Over (positions since) 3 (named (one_claim o))
    one_over o = (
      at_in o.b (before_in since o.t o.d o.flush.answer o.b (barrier_in o.t.before o.b o.published)),
      (
        at_in o.t.tlbi (tlbi_in since o.t o.d o.flush.answer),
        (at_in o.d (answer_in since o.t o.d o.flush.answer), tt),
      ),
    )

    -- the events of the first step came before the second TLBI
    pub two_over : (o : TwoSteps heading Patterns place p since) → Over (positions since) 5 (named (two_claim o))
    two_over o =
        let a = o.first.flush.answer in
        let first_in : (x : Noted) → In o.t2.before x → In (positions since) x.position
        = λ x i. at_in x (before_in since o.t2 o.d2 o.second.answer x i) in (
          first_in o.b (before_in o.t2.before o.t1 o.d1 a o.b (barrier_in o.t1.before o.b o.first.published)),
          (
            first_in o.t1.tlbi (tlbi_in o.t2.before o.t1 o.d1 a),
            (
              first_in o.d1 (answer_in o.t2.before o.t1 o.d1 a),
              (
                at_in o.t2.tlbi (tlbi_in since o.t2 o.d2 o.second.answer),
                (at_in o.d2 (answer_in since o.t2 o.d2 o.second.answer), tt),
              ),
            ),
          ),
        )

  -- ---- patterns by their claims

  module _ (known : Known heading) where
    module _ (trust : Trust) (since : List Noted) where
      allowed_one : (o : OneStep heading Patterns place p since) → allows trust (one_claim since o) ≡ true
          → cleansed heading trust place p since ≡ true
      allowed_one o k = (known.cleansed trust).complete place p since
          (inl (record { b = o.b; t = o.t; d = o.d; published = o.published; flush = o.flush; allowed = k }))

      allowed_two : (o : TwoSteps heading Patterns place p since) → allows trust (two_claim since o) ≡ true
          → cleansed heading trust place p since ≡ true
      allowed_two o k = (known.cleansed trust).complete place p since
          (inr (record { b = o.b; t1 = o.t1; d1 = o.d1; t2 = o.t2; d2 = o.d2; first = o.first; second = o.second; allowed = k }))

      by_trust : cleansed heading trust place p since ≡ true
          → ((o : OneStep heading Patterns place p since) × (allows trust (one_claim since o) ≡ true))
          ⊎ ((o : TwoSteps heading Patterns place p since) × (allows trust (two_claim since o) ≡ true))
      by_trust e = elim ((known.cleansed trust).sound place p since e) [
        | inl o ↦
            inl (record { b = o.b; t = o.t; d = o.d; published = o.published; flush = o.flush; allowed = refl }, o.allowed)
        | inr o ↦
            inr (record { b = o.b; t1 = o.t1; d1 = o.d1; t2 = o.t2; d2 = o.d2; first = o.first; second = o.second; allowed = refl }, o.allowed)
      ]

    -- what a list of claims cleanses is cleansed
    pub forgotten : (cs : List Claim) (since : List Noted) → cleansed heading (Listed cs) place p since ≡ true
        → cleansed heading Patterns place p since ≡ true
    forgotten cs since e = elim (by_trust (Listed cs) since e) [
      | inl k ↦ allowed_one Patterns since k.0 refl
      | inr k ↦ allowed_two Patterns since k.0 refl
    ]

    -- ---- the claims with these positions

    abbrev one_named : List ℕ → Claim
    one_named ns = Place p place (get_or ns 0 0) (get_or ns 1 0) (get_or ns 2 0)

    abbrev two_named : List ℕ → Claim
    two_named ns = Two p place (get_or ns 0 0) (get_or ns 1 0) (get_or ns 2 0) (get_or ns 3 0) (get_or ns 4 0)

    names_one : (ns : List ℕ) → Sized 3 ns → named (one_named ns) ≡ ns
    names_one (b ∷ t ∷ d ∷ []) s = refl
    names_one ns s = absurd s

    names_two : (ns : List ℕ) → Sized 5 ns → named (two_named ns) ≡ ns
    names_two (b ∷ t1 ∷ d1 ∷ t2 ∷ d2 ∷ []) s = refl
    names_two ns s = absurd s

    module _ (since : List Noted) where
      abbrev test : Claim → Bool
      test c = cleansed heading (Listed (c ∷ [])) place p since

      one_sound : (ns : List ℕ) → Sized 3 ns → test (one_named ns) ≡ true → OneAt heading place p since ns
      one_sound ns sized e = elim (by_trust (Listed (one_named ns ∷ [])) since e) [
        | inl k ↦
            (k.0, sym (names_one ns sized) ∙ ap named (only_this heading known (one_named ns) (one_claim since k.0) k.1))
        | inr k ↦ absurd (cc (only_this heading known (one_named ns) (two_claim since k.0) k.1))
      ]

      one_complete : (ns : List ℕ) → OneAt heading place p since ns → Over (positions since) 3 ns × (test (one_named ns) ≡ true)
      one_complete ns at =
          subst (λ (ms : List ℕ). Over (positions since) 3 ms × (test (one_named ms) ≡ true)) (sym at.1) (
            one_over since at.0,
            allowed_one (Listed (one_claim since at.0 ∷ [])) since at.0 (this heading known (one_claim since at.0)),
          )

      two_sound : (ns : List ℕ) → Sized 5 ns → test (two_named ns) ≡ true → TwoAt heading place p since ns
      two_sound ns sized e = elim (by_trust (Listed (two_named ns ∷ [])) since e) [
        | inl k ↦ absurd (cc (only_this heading known (two_named ns) (one_claim since k.0) k.1))
        | inr k ↦
            (k.0, sym (names_two ns sized) ∙ ap named (only_this heading known (two_named ns) (two_claim since k.0) k.1))
      ]

      two_complete : (ns : List ℕ) → TwoAt heading place p since ns → Over (positions since) 5 ns × (test (two_named ns) ≡ true)
      two_complete ns at =
          subst (λ (ms : List ℕ). Over (positions since) 5 ms × (test (two_named ms) ≡ true)) (sym at.1) (
            two_over since at.0,
            allowed_two (Listed (two_claim since at.0 ∷ [])) since at.0 (this heading known (two_claim since at.0)),
          )

      -- ---- the claim of a place that is cleansed

      pub least_claim : cleansed heading Patterns place p since ≡ true → (c : Claim) × IsLeastClaim heading place p since c
      least_claim e =
          elim (least_or_none (OneAt heading place p since) (positions since) 3 (λ ns. test (one_named ns)) one_sound one_complete) [
            | inl l ↦ (
              one_named l.0,
              (refl, refl, subst (IsLeast (OneAt heading place p since)) (sym (names_one l.0 l.1)) l.2),
            )
            | inr no_one ↦
                elim (least_or_none (TwoAt heading place p since) (positions since) 5 (λ ns. test (two_named ns)) two_sound two_complete) [
                  | inl l ↦ (
                    two_named l.0,
                    (
                      refl,
                      refl,
                      (λ o. no_one (named (one_claim since o)) (o, refl)),
                      subst (IsLeast (TwoAt heading place p since)) (sym (names_two l.0 l.1)) l.2,
                    ),
                  )
                  | inr no_two ↦ absurd (elim (by_trust Patterns since e) [
                    | inl k ↦ no_one (named (one_claim since k.0)) (k.0, refl)
                    | inr k ↦ no_two (named (two_claim since k.0)) (k.0, refl)
                  ])
                ]
          ]

      pub listed_claim : (cs : List Claim) (c : Claim) → IsLeastClaim heading place p since c → Contains cs c
          → cleansed heading (Listed cs) place p since ≡ true
      listed_claim cs (Place r a b t d) k has = let at = k.2.holds in
          allowed_one (Listed cs) since at.0 (listed heading known cs (Place r a b t d) (one_claim since at.0) has
          (cc (k.0, k.1, at.1)))
      listed_claim cs (Two r a b t1 d1 t2 d2) k has = let at = k.3.holds in
          allowed_two (Listed cs) since at.0 (listed heading known cs (Two r a b t1 d1 t2 d2) (two_claim since at.0) has
          (cc (k.0, k.1, at.1)))
      listed_claim cs (Taken r tag t d) k has = absurd k
