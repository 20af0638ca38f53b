-- The VMID of a PE is the one of all its readable values, and there is none where two of them differ.
use Rattle.bbm_rules.proofs.Common.{◌≡◌, ℕ, Bool, true, false, cond, ◌==◌, List, [], ◌∷◌, Some, None, map, refl, sym}
use Rattle.bbm_rules.proofs.Common.{◌∙◌, ap, inl, inr, true≢false, take, and_parts, eqb-true, or_cases, or_left}
use Rattle.bbm_rules.proofs.Common.{or_right, among, every, one_number, Event, Heading, Hyp, VttbrEl2, register_values}
use Rattle.bbm_rules.proofs.Common.{tag_number, vmid_of}
use Rattle.std.proofs.lemmas.Bool.{and_cases}
use Rattle.bbm_lemmas.proofs.Words.{same_number}
use Rattle.bbm_rules.proofs.RegisterLaw.{first}
use Rattle.bbm_rules.specs.Prelude.{HypWorld}
use Rattle.bbm_rules.specs.RegisterValues.{vmid_in}
use Rattle.bbm_rules.specs.Sentences.{register_value}

module _ (f : ℕ → ℕ) where
  all_same : (n : ℕ) (vs : List ℕ) → every (λ m. m == n) (map f vs) ≡ true → (a : ℕ) → among a vs ≡ true → f a ≡ n
  all_same n [] k a i = absurd (true≢false (sym i))
  all_same n (v ∷ vs) k a i =
      let parts = and_parts (f v == n) (every (λ m. m == n) (map f vs)) k in
      elim (or_cases (v == a) (among a vs) i) [
        | inl here ↦ sym (ap f (eqb-true v a here)) ∙ eqb-true (f v) n parts.0
        | inr there ↦ all_same n vs parts.1 a there
      ]

  one_other : (n : ℕ) (vs : List ℕ) → every (λ m. m == n) (map f vs) ≡ false
      → (a : ℕ) × (among a vs ≡ true) × ((f a == n) ≡ false)
  one_other n [] k = absurd (true≢false k)
  one_other n (v ∷ vs) k =
      elim (and_cases (f v == n) (every (λ m. m == n) (map f vs)) k) [
        | inl here ↦ (v, or_left (v == v) (among v vs) (same_number v), here)
        | inr there ↦
            let r = one_other n vs there in (r.0, or_right (v == r.0) (among r.0 vs) r.1, r.2)
      ]

  one_by : (v n : ℕ) (vs : List ℕ) (b : Bool) → every (λ m. m == f n) (map f vs) ≡ b → cond b (Some (f n)) None ≡ Some v
      → (a : ℕ) → among a (n ∷ vs) ≡ true → f a ≡ v
  one_by v n vs false k e a i = cc
  one_by v n vs true k e a i =
      let same : f n ≡ v = cc in
      elim (or_cases (n == a) (among a vs) i) [
        | inl here ↦ sym (ap f (eqb-true n a here)) ∙ same
        | inr there ↦ all_same (f n) vs k a there ∙ same
      ]

  one : (v : ℕ) (vs : List ℕ) → one_number (map f vs) ≡ Some v → (a : ℕ) → among a vs ≡ true → f a ≡ v
  one v [] e a i = absurd (true≢false (sym i))
  one v (n ∷ vs) e a i = one_by v n vs (every (λ m. m == f n) (map f vs)) refl e a i

  several_by : (n : ℕ) (vs : List ℕ) (b : Bool) → every (λ m. m == f n) (map f vs) ≡ b → cond b (Some (f n)) None ≡ None
      → (a b : ℕ) × (among a (n ∷ vs) ≡ true) × (among b (n ∷ vs) ≡ true) × ((f a == f b) ≡ false)
  several_by n vs true k e = cc
  several_by n vs false k e =
      let r = one_other (f n) vs k in
      (r.0, n, or_right (n == r.0) (among r.0 vs) r.1, or_left (n == n) (among n vs) (same_number n), r.2)

  several : (vs : List ℕ) (x : ℕ) → take 1 vs ≡ x ∷ [] → one_number (map f vs) ≡ None
      → (a b : ℕ) × (among a vs ≡ true) × (among b vs ≡ true) × ((f a == f b) ≡ false)
  several [] x e k = cc
  several (n ∷ vs) x e k = several_by n vs (every (λ m. m == f n) (map f vs)) refl k

pub one_vmid : (heading : Heading) (hyp : HypWorld) (h : List Event) (p v value : ℕ)
    → heading.world ≡ Hyp hyp → vmid_of heading h p ≡ Some v
    → among value (register_values h p VttbrEl2) ≡ true → tag_number value ≡ v
one_vmid heading hyp h p v value world e i =
    one tag_number v (register_values h p VttbrEl2) (ap (λ w. vmid_in w h p) (sym world) ∙ e) value i

pub several_vmids : (heading : Heading) (hyp : HypWorld) (h : List Event) (p : ℕ)
    → heading.world ≡ Hyp hyp → vmid_of heading h p ≡ None
    → (a b : ℕ) × (among a (register_values h p VttbrEl2) ≡ true) × (among b (register_values h p VttbrEl2) ≡ true)
    × ((tag_number a == tag_number b) ≡ false)
several_vmids heading hyp h p world e =
    several tag_number (register_values h p VttbrEl2) (register_value h p VttbrEl2) (first p VttbrEl2 h)
    (ap (λ w. vmid_in w h p) (sym world) ∙ e)

pub ruleset laws = (one_vmid, several_vmids)
