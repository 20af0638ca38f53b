-- The places of a page after one more write.
use Rattle.bbm_rules.proofs.Common.{◌≡◌, ℕ, Bool, true, false, cond, eqb, List, ◌∷◌, refl, sym, ap, ◌∙◌, eqb-true}
use Rattle.bbm_rules.proofs.Common.{any-filter_same, among, with_number}
use Rattle.std.specs.List.{filter}

-- a number that passes is put in front before the filter or behind it
pub filter-with : (t : ℕ → Bool) (at : ℕ) (ws : List ℕ) → t at ≡ true
    → filter t (with_number at ws) ≡ with_number at (filter t ws)
filter-with t at ws here = by_case (among at ws) refl
  where
    same : among at (filter t ws) ≡ among at ws
    same = any-filter_same (λ m. eqb m at) t true (λ k e. ap t (eqb-true k at e) ∙ here) ws

    by_case : (b : Bool) → among at ws ≡ b → filter t (cond b ws (at ∷ ws))
        ≡ cond (among at (filter t ws)) (filter t ws) (at ∷ filter t ws)
    by_case true e = sym (ap (λ (b : Bool). cond b (filter t ws) (at ∷ filter t ws)) (same ∙ e))
    by_case false e =
        ap (λ (b : Bool). cond b (at ∷ filter t ws) (filter t ws)) here
        ∙ sym (ap (λ (b : Bool). cond b (filter t ws) (at ∷ filter t ws)) (same ∙ e))
