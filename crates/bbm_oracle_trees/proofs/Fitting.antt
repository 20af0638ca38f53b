-- The roots of events that fit a header fit it.
use Rattle.bbm_rules.proofs.Common.{◌≡◌, ℕ, true, ◌&&◌, List, [], ◌∷◌, not, Result, IfOk, and_parts, IfOk-weaker}
use Rattle.bbm_rules.proofs.Common.{fits_heading, is_pe, is_root_lock, is_root_page, Heading, Event, Init, Null, Root}
use Rattle.bbm_rules.proofs.Common.{Unroot, Write, Dsb, Dmb, Isb, Tlbi, Msr, Lock, Unlock, Declared, is_at, retired}
use Rattle.bbm_rules.proofs.Common.{roots_of}
use Rattle.std.specs.List.{All}
use Rattle.std.proofs.lemmas.List.Elements.{All-nil, All-cons, All-filter, All-same}
use Rattle.bbm_oracle_trees.specs.HistoryFits.{all_fit, fits_root}

module _ (heading : Heading) where
  abbrev Fit : Declared → Type 0
  Fit root = fits_root heading root ≡ true

  retired_fit : (page : ℕ) (rs : List Declared) → All Fit rs → All Fit (retired page rs)
  retired_fit page rs h = All-filter (λ r. not (is_at page r)) Fit rs h

  rest : (e : Event) (h : List Event) → all_fit heading (e ∷ h) ≡ true → all_fit heading h ≡ true
  rest e h fit = (and_parts (fits_heading heading e) (all_fit heading h) fit).1

  pub roots_fit : (h : List Event) → all_fit heading h ≡ true → All Fit (roots_of h)
  roots_fit [] fit = All-nil Fit
  roots_fit (Root pe kind lock page ∷ h) fit =
      All-cons Fit (record { page = page; kind = kind; lock = lock }) (retired page (roots_of h))
      (and_parts (is_pe heading pe && is_root_lock lock) (is_root_page heading.world kind page)
      (and_parts (fits_heading heading (Root pe kind lock page)) (all_fit heading h) fit).0).1
      (retired_fit page (roots_of h) (roots_fit h (rest (Root pe kind lock page) h fit)))
  roots_fit (Unroot pe page ∷ h) fit = retired_fit page (roots_of h) (roots_fit h (rest (Unroot pe page) h fit))
  roots_fit (Init pe page ∷ h) fit = roots_fit h (rest (Init pe page) h fit)
  roots_fit (Null pe page ∷ h) fit = roots_fit h (rest (Null pe page) h fit)
  roots_fit (Write pe place value ∷ h) fit = roots_fit h (rest (Write pe place value) h fit)
  roots_fit (Dsb pe dsb ∷ h) fit = roots_fit h (rest (Dsb pe dsb) h fit)
  roots_fit (Dmb pe dsb ∷ h) fit = roots_fit h (rest (Dmb pe dsb) h fit)
  roots_fit (Isb pe ∷ h) fit = roots_fit h (rest (Isb pe) h fit)
  roots_fit (Tlbi pe op xt ∷ h) fit = roots_fit h (rest (Tlbi pe op xt) h fit)
  roots_fit (Msr pe reg value ∷ h) fit = roots_fit h (rest (Msr pe reg value) h fit)
  roots_fit (Lock pe lock ∷ h) fit = roots_fit h (rest (Lock pe lock) h fit)
  roots_fit (Unlock pe lock ∷ h) fit = roots_fit h (rest (Unlock pe lock) h fit)

  -- the same of a list that a call found
  pub found_fit : {V E : Type 0} (items : V → List Declared) (h : List Event) (r : Result V E) →
      all_fit heading h ≡ true → IfOk r (λ v. items v ≡ roots_of h) → IfOk r (λ v. All Fit (items v))
  found_fit {V} items h r fit found =
      IfOk-weaker r (λ (v : V). items v ≡ roots_of h) (λ (v : V). All Fit (items v))
      (λ v e. All-same Fit (items v) (roots_of h) e (roots_fit h fit)) found
