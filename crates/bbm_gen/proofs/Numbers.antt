-- What holds of each of the 512 descriptors of a root, and of each block, by looking at them all.
use Rattle.bbm_rules.proofs.Common.{◌≡◌, ℕ, zero, suc, ◌+◌, ◌*◌, ◌^◌, ◌<◌, Bool, true, false, ◌==◌, [], Some, None, map}
use Rattle.bbm_rules.proofs.Common.{refl, sym, ◌∙◌, subst, true≢false, nat_lt, arith, eq-eqb, eqb-true, result_ok}
use Rattle.bbm_rules.proofs.Common.{meets, Form, form_of, contiguous_of, scope_of, Vae2is, Ipas2e1is, El2Va, Ipa}
use Rattle.bbm_rules.proofs.Common.{is_place, is_value, below, page_of, Node, region_of}
use Rattle.bbm_regimes.specs.declared.regime.Kind.TheVariants.{El2, S2}
use Rattle.bbm_tlbi_scope.specs.Decode.{one_page}
use Rattle.bbm_tlbi_scope.specs.declared.scope.Scope.{Scope}
use Rattle.bbm_gen.specs.Generated.{el2_root, s2_root, place_in, first_page}

-- two functions that give the same for each number below n
pub agree : {A : Type 0} (f g : ℕ → A) (n s : ℕ) → map f (below n) ≡ map g (below n) → s < n → f s ≡ g s
agree f g zero s same lt = absurd (omega (arith, lt))
agree f g (suc n) s same lt = by (agree f g n s) (s == n) refl
  where
    by : (map f (below n) ≡ map g (below n) → s < n → f s ≡ g s) → (b : Bool) → (s == n) ≡ b → f s ≡ g s
    by before true e =
        let is : s ≡ n = eqb-true s n e in let head : f n ≡ g n = cc in subst (λ m. f m ≡ g m) (sym is) head
    by before false e =
        let apart : s ≡ n → ⊥ = λ i. true≢false (sym (eq-eqb s n i) ∙ e) in
        let tail : map f (below n) ≡ map g (below n) = cc in before tail (omega (arith, lt, apart))

-- the nodes of the two roots
abbrev pub el2_node : Node
el2_node = record { page = el2_root; kind = El2; level = 1; root = el2_root; base = 0; above = [] }

abbrev pub s2_node : Node
s2_node = record { page = s2_root; kind = S2; level = 1; root = s2_root; base = 0; above = [] }

pub inside_el2 : (s : ℕ) → s < 512 → page_of (place_in el2_root s) ≡ el2_root
inside_el2 s lt = agree (λ s. page_of (place_in el2_root s)) (λ s. el2_root) 512 s refl lt

pub inside_s2 : (s : ℕ) → s < 512 → page_of (place_in s2_root s) ≡ s2_root
inside_s2 s lt = agree (λ s. page_of (place_in s2_root s)) (λ s. s2_root) 512 s refl lt

-- the scopes of the two flushes by address
abbrev pub el2_scope : ℕ → Scope
el2_scope page = record {
  family = El2Va;
  asid = None;
  vmid_scoped = false;
  interval = Some (one_page page);
  last_only = false;
  level = None;
  broadcast = true;
}

abbrev pub s2_scope : ℕ → Scope
s2_scope page = record {
  family = Ipa;
  asid = None;
  vmid_scoped = true;
  interval = Some (one_page page);
  last_only = false;
  level = None;
  broadcast = true;
}

pub decoded_el2 : (s : ℕ) → s < 512 → result_ok (scope_of Vae2is (first_page s)) ≡ Some (el2_scope (first_page s))
decoded_el2 s lt =
    agree (λ s. result_ok (scope_of Vae2is (first_page s))) (λ s. Some (el2_scope (first_page s))) 512 s refl lt

pub decoded_s2 : (s : ℕ) → s < 512 → result_ok (scope_of Ipas2e1is (first_page s)) ≡ Some (s2_scope (first_page s))
decoded_s2 s lt =
    agree (λ s. result_ok (scope_of Ipas2e1is (first_page s))) (λ s. Some (s2_scope (first_page s))) 512 s refl lt

pub meets_el2 : (s : ℕ) → s < 512 → meets (one_page (first_page s)) (region_of el2_node (place_in el2_root s)) ≡ true
meets_el2 s lt =
    agree (λ s. meets (one_page (first_page s)) (region_of el2_node (place_in el2_root s))) (λ s. true) 512 s refl lt

pub meets_s2 : (s : ℕ) → s < 512 → meets (one_page (first_page s)) (region_of s2_node (place_in s2_root s)) ≡ true
meets_s2 s lt =
    agree (λ s. meets (one_page (first_page s)) (region_of s2_node (place_in s2_root s))) (λ s. true) 512 s refl lt

pub block_is_leaf : (m : ℕ) → m < 512 → form_of 1 (m * 2 ^ 30 + 0x701) ≡ Form.leaf
block_is_leaf m lt = agree (λ m. form_of 1 (m * 2 ^ 30 + 0x701)) (λ m. Form.leaf) 512 m refl lt

pub block_is_alone : (m : ℕ) → m < 512 → contiguous_of (m * 2 ^ 30 + 0x701) ≡ false
block_is_alone m lt = agree (λ m. contiguous_of (m * 2 ^ 30 + 0x701)) (λ m. false) 512 m refl lt

pub el2_is_place : (s : ℕ) → s < 512 → is_place (place_in el2_root s) ≡ true
el2_is_place s lt = agree (λ s. is_place (place_in el2_root s)) (λ s. true) 512 s refl lt

pub s2_is_place : (s : ℕ) → s < 512 → is_place (place_in s2_root s) ≡ true
s2_is_place s lt = agree (λ s. is_place (place_in s2_root s)) (λ s. true) 512 s refl lt

pub page_is_value : (s : ℕ) → s < 512 → is_value (first_page s) ≡ true
page_is_value s lt = agree (λ s. is_value (first_page s)) (λ s. true) 512 s refl lt

pub block_is_value : (m : ℕ) → m < 512 → is_value (m * 2 ^ 30 + 0x701) ≡ true
block_is_value m lt = agree (λ m. is_value (m * 2 ^ 30 + 0x701)) (λ m. true) 512 m refl lt

pub is_writer : (p : ℕ) → p < 4 → nat_lt p 4 ≡ true
is_writer p lt = agree (λ p. nat_lt p 4) (λ p. true) 4 p refl lt
