-- The readable standings of a PE: the newest is the present one, and the values of each are readable by themselves.
use Rattle.bbm_rules.proofs.Common.{◌≡◌, ℕ, Bool, true, false, cond, ◌&&◌, ◌==◌, List, [], ◌∷◌, refl, sym, ◌∙◌, ap, subst}
use Rattle.bbm_rules.proofs.Common.{inl, inr, take, or_right, Reg, Ttbr0El1, Ttbr1El1, Event, Isb, Msr, In, among}
use Rattle.bbm_rules.proofs.Common.{register_values, same_reg, true≢false}
use Rattle.bbm_rules.proofs.SameRegister.{reg_self}
use Rattle.bbm_rules.proofs.RegisterLaw.{first, has_first}
use Rattle.bbm_rules.specs.RegisterValues.{Standing, register_value, standing_of, standings}

module _ (p : ℕ) where
  first_isb : (ss : List Standing) (s : Standing) (b : Bool) → take 1 ss ≡ s ∷ [] → take 1 (cond b (take 1 ss) ss) ≡ s ∷ []
  first_isb ss s true rest = ap (take 1) rest
  first_isb ss s false rest = rest

  -- the standing after a register write, of p or of another PE
  abbrev stood : List Event → Reg → ℕ → Bool → Standing
  stood h r v c = record {
    first = cond (c && same_reg r Ttbr0El1) v (register_value h p Ttbr0El1);
    second = cond (c && same_reg r Ttbr1El1) v (register_value h p Ttbr1El1);
  }

  pub first_standing : (h : List Event) → take 1 (standings h p) ≡ standing_of h p ∷ []
  first_standing [] = refl
  first_standing (Msr pe r v ∷ h) = by (pe == p) (first_standing h)
    where
      by : (c : Bool) → take 1 (standings h p) ≡ standing_of h p ∷ []
          → take 1 (cond c (stood h r v c ∷ standings h p) (standings h p)) ≡ stood h r v c ∷ []
      by true rest = refl
      by false rest = rest
  first_standing (Isb pe ∷ h) = first_isb (standings h p) (standing_of h p) (pe == p) (first_standing h)
  first_standing (e ∷ h) = first_standing h

  -- the present value is readable
  present : (h : List Event) → among (register_value h p Ttbr0El1) (register_values h p Ttbr0El1) ≡ true
  present h = has_first p Ttbr0El1 (register_values h p Ttbr0El1) (register_value h p Ttbr0El1) (first p Ttbr0El1 h)

  pub standing_readable : (h : List Event) (s : Standing) → In (standings h p) s → among s.first (register_values h p Ttbr0El1) ≡ true
  standing_readable [] s (inl e) = ap (λ (x : Standing). among x.first (0 ∷ [])) (sym e)
  standing_readable [] s (inr i) = absurd i
  standing_readable (Msr pe r v ∷ h) s i = by (pe == p) refl i (standing_readable h s)
    where
      later : among s.first (register_values h p Ttbr0El1) ≡ true → (c : Bool)
          → among s.first (cond c (v ∷ register_values h p Ttbr0El1) (register_values h p Ttbr0El1)) ≡ true
      later k true = or_right (v == s.first) _ k
      later k false = k

      by : (c : Bool) → (pe == p) ≡ c → In (cond c (standing_of (Msr pe r v ∷ h) p ∷ standings h p) (standings h p)) s
          → (In (standings h p) s → among s.first (register_values h p Ttbr0El1) ≡ true)
          → among s.first (register_values (Msr pe r v ∷ h) p Ttbr0El1) ≡ true
      by true c (inl e) rest = subst (λ (x : Standing). among x.first (register_values (Msr pe r v ∷ h) p Ttbr0El1) ≡ true) e (present (Msr pe r v ∷ h))
      by true c (inr j) rest = later (rest j) (pe == p && same_reg r Ttbr0El1)
      by false c j rest = later (rest j) (pe == p && same_reg r Ttbr0El1)
  standing_readable (Isb pe ∷ h) s i = by (pe == p) i (standing_readable h s)
    where
      by_first : In (standing_of h p ∷ []) s → among s.first (take 1 (register_values h p Ttbr0El1)) ≡ true
      by_first (inl e) =
          ap (among s.first) (first p Ttbr0El1 h)
          ∙ (ap (λ (x : Standing). among x.first (register_value h p Ttbr0El1 ∷ [])) (sym e)
          ∙ has_first p Ttbr0El1 (register_value h p Ttbr0El1 ∷ []) (register_value h p Ttbr0El1) refl)
      by_first (inr k) = absurd k

      newest : In (take 1 (standings h p)) s → among s.first (take 1 (register_values h p Ttbr0El1)) ≡ true
      newest j = by_first (subst (λ (ss : List Standing). In ss s) (first_standing h) j)

      by : (c : Bool) → In (cond c (take 1 (standings h p)) (standings h p)) s
          → (In (standings h p) s → among s.first (register_values h p Ttbr0El1) ≡ true)
          → among s.first (cond c (take 1 (register_values h p Ttbr0El1)) (register_values h p Ttbr0El1)) ≡ true
      by true j rest = newest j
      by false j rest = rest j
  standing_readable (e ∷ h) s i = standing_readable h s i

  -- Where an ISB leaves the readable values of each register as they were, it leaves the readable standings: a register
  -- write makes two values readable at least.
  more : (v x : ℕ) (vs : List ℕ) → take 1 vs ≡ x ∷ [] → v ∷ [] ≡ v ∷ vs → false ≡ true
  more v x [] e same = cc
  more v x (w ∷ vs) e same = cc

  pub one_standing : (h : List Event) → ((reg : Reg) → take 1 (register_values h p reg) ≡ register_values h p reg)
      → take 1 (standings h p) ≡ standings h p
  one_standing [] one = refl
  one_standing (Msr pe r v ∷ h) one = by (pe == p) (one r) one (λ all. one_standing h all)
    where
      by : (c : Bool) → take 1 (cond (c && same_reg r r) (v ∷ register_values h p r) (register_values h p r))
          ≡ cond (c && same_reg r r) (v ∷ register_values h p r) (register_values h p r)
          → ((reg : Reg) → take 1 (cond (c && same_reg r reg) (v ∷ register_values h p reg) (register_values h p reg))
          ≡ cond (c && same_reg r reg) (v ∷ register_values h p reg) (register_values h p reg))
          → (((reg : Reg) → take 1 (register_values h p reg) ≡ register_values h p reg) → take 1 (standings h p) ≡ standings h p)
          → take 1 (cond c (standing_of (Msr pe r v ∷ h) p ∷ standings h p) (standings h p))
          ≡ cond c (standing_of (Msr pe r v ∷ h) p ∷ standings h p) (standings h p)
      by true here all rest =
          absurd (true≢false (sym (more v (register_value h p r) (register_values h p r) (first p r h) (subst (λ (b : Bool).
          take 1 (cond b (v ∷ register_values h p r) (register_values h p r))
          ≡ cond b (v ∷ register_values h p r) (register_values h p r)) (reg_self r) here))))
      by false here all rest = rest all
  one_standing (Isb pe ∷ h) one = by (pe == p) one (λ all. one_standing h all)
    where
      twice : (ss : List Standing) → take 1 (take 1 ss) ≡ take 1 ss
      twice [] = refl
      twice (s ∷ ss) = refl

      by : (c : Bool) → ((reg : Reg) → take 1 (cond c (take 1 (register_values h p reg)) (register_values h p reg))
          ≡ cond c (take 1 (register_values h p reg)) (register_values h p reg))
          → (((reg : Reg) → take 1 (register_values h p reg) ≡ register_values h p reg) → take 1 (standings h p) ≡ standings h p)
          → take 1 (cond c (take 1 (standings h p)) (standings h p)) ≡ cond c (take 1 (standings h p)) (standings h p)
      by true all rest = twice (standings h p)
      by false all rest = rest all
  one_standing (e ∷ h) one = one_standing h one
