-- The first of consecutive pages that isn't fresh is the least one.
use Rattle.bbm_rules.proofs.Common.{◌≡◌, ℕ, zero, suc, ◌+◌, ◌*◌, ◌<◌, ◌≤◌, Bool, true, false, not, List, Some, None}
use Rattle.bbm_rules.proofs.Common.{min, unwrap_or, filter, refl, ◌∙◌, ap, arith, least, pages_from}
use Rattle.bbm_replay.proofs.Cases.{either}

module _ (fresh : ℕ → Bool) where
  abbrev unfresh : ℕ → ℕ → List ℕ
  unfresh page n = filter (λ p. not (fresh p)) (pages_from page n)

  pub none_unfresh : (n page : ℕ) → ((k : ℕ) → k < n → fresh (page + 4096 * k) ≡ true) → least (unfresh page n) ≡ None
  none_unfresh zero page all = refl
  none_unfresh (suc n) page all =
      let at : page ≡ page + 4096 * 0 = omega arith in
      rw (ap fresh at ∙ all 0 (omega arith)) (none_unfresh n (page + 4096) (λ k below.
      let next : page + 4096 + 4096 * k ≡ page + 4096 * (k + 1) = omega arith in
      ap fresh next ∙ all (k + 1) (omega arith)))

  least_above : (n page bound : ℕ) → bound ≤ page → bound ≤ unwrap_or (least (unfresh page n)) bound
  least_above zero page bound le = omega arith
  least_above (suc n) page bound le =
      let low = least_above n (page + 4096) bound (omega arith) in
      let high = least_above n (page + 4096) page (omega arith) in
      either (fresh page) (λ e. rw e low) (λ e. rw e (omega arith))

  pub first_unfresh : (n page i : ℕ) → i < n → ((k : ℕ) → k < i → fresh (page + 4096 * k) ≡ true)
      → fresh (page + 4096 * i) ≡ false → least (unfresh page n) ≡ Some (page + 4096 * i)
  first_unfresh zero page i below all here = absurd (omega arith)
  first_unfresh (suc n) page zero below all here =
      let at : page ≡ page + 4096 * 0 = omega arith in
      let high = least_above n (page + 4096) page (omega arith) in
      let found : min page (unwrap_or (least (unfresh (page + 4096) n)) page) ≡ page + 4096 * 0 = omega arith in
      rw (ap fresh at ∙ here) (ap (λ (x : ℕ). Some x) found)
  first_unfresh (suc n) page (suc i) below all here =
      let at : page ≡ page + 4096 * 0 = omega arith in
      let last : page + 4096 + 4096 * i ≡ page + 4096 * suc i = omega arith in
      rw (ap fresh at ∙ all 0 (omega arith)) (first_unfresh n (page + 4096) i (omega arith) (λ k less.
      let next : page + 4096 + 4096 * k ≡ page + 4096 * (k + 1) = omega arith in
      ap fresh next ∙ all (k + 1) (omega arith)) (ap fresh last ∙ here)
      ∙ ap (λ (x : ℕ). Some x) last)
