-- The table of one start.
use Rattle.bbm_tree_index.proofs.Common.{Heading, Fits, RoleFits, StandsAt, spot_with, Counts, Starting, Well, role_as}
use Rattle.bbm_tree_index.proofs.Common.{spot_as, Mark, Hangs, Spot}
use Rattle.bbm_rules.proofs.Common.{◌≡◌, ℕ, zero, suc, ◌<◌, ◌+◌, ◌*◌, ◌%◌, ◌^◌, ◌==◌, Bool, true, false, [], ◌∷◌}
use Rattle.bbm_rules.proofs.Common.{Option, Some, None, Contains, refl, sym, ap, ◌∙◌, subst, true≢false, if◌then◌else◌}
use Rattle.bbm_rules.proofs.Common.{arith, eqb-true, eq-eqb, same_Some, index_of, input_pages, Node, node_below}
use Rattle.bbm_tree_index.proofs.Growing.{hang_fits, well_grown, well_none}

-- the only item of a list of one
pub only : {X : Type 0} (x y : X) → Contains (x ∷ []) y → y ≡ x
only x y (zero, below, at) = sym at
only x y (suc k, below, at) = absurd (omega (arith, below))

pub is_only : {X : Type 0} (x : X) → Contains (x ∷ []) x
is_only x = (0, omega arith, refl)

module _ (s : Spot) (place next : ℕ) (mark : Mark) (is : mark.role ≡ Hangs place s.kind (suc s.level) (s.base + index_of place * input_pages s.level) s.first)
    (few : mark.many ≡ false) (g : ℕ → Option Mark) (put : (q : ℕ) → g q ≡ (if q == next then Some mark else None)) where
  pub one_well : (heading : Heading) → Fits s → s.level < 3 → index_of place < 512 → (next < 2 ^ 48) × (next % 4096 ≡ 0) → Well heading g
  one_well heading fits low below page = well_grown heading (Some next) mark (λ q. None) g put
      (λ p e. subst (λ q. (q < 2 ^ 48) × (q % 4096 ≡ 0) × RoleFits heading mark.role) (same_Some next p e) (
        page.0,
        page.1,
        subst (RoleFits heading) (sym is) (hang_fits heading s place (index_of place) s.kind s.first fits low below),
      ))
      (well_none heading (λ q. None) (λ q. refl))

  pub one_start : (heading : Heading) (n : Node) → StandsAt s n → Starting heading g (node_below n place next ∷ [])
  one_start heading n st = let m : Node = node_below n place next in record {
    plain = λ x c. subst (λ y. spot_with heading (role_as y y.above) ≡ Some (spot_as y)) (sym (only m x c)) refl;
    alike = λ x y c d. (ap (λ z. z.kind) (only m x c ∙ sym (only m y d)), ap (λ z. z.level) (only m x c ∙ sym (only m y d)));
    told = λ q. subst (Counts (Contains (m ∷ [])) q) (sym (put q)) (by q (q == next) refl);
  }
    where
      by : (q : ℕ) (b : Bool) → (q == next) ≡ b → Counts (Contains (node_below n place next ∷ [])) q (if b then Some mark else None)
      by q true e = record {
        node = node_below n place next;
        is_there = is_only (node_below n place next);
        at = sym (eqb-true q next e);
        role = is ∙ (λ i. Hangs place (sym st.kind i) (suc (sym st.level i)) (sym st.base i + index_of place * input_pages (sym st.level i)) (sym st.root i));
        one = λ f x c at. only (node_below n place next) x c;
        two = λ f. absurd (true≢false (sym f ∙ few));
      }
      by q false e = λ x c at. true≢false (sym (eq-eqb q next (sym at ∙ ap (λ z. z.page) (only (node_below n place next) x c))) ∙ e)
