-- The pages of a root: they lie below 2 ^ 48, and where none is found that isn't fresh, each is fresh.
use Rattle.bbm_replay.proofs.Common.{input_pages, S2, Heading, third_true}
use Rattle.bbm_events.proofs.Ranges.{ranges}
use Rattle.bbm_rules.proofs.Common.{◌≡◌, ℕ, zero, suc, ◌+◌, ◌*◌, ◌%◌, ◌^◌, ◌<◌, ◌≤◌, Bool, true, false, cond, not}
use Rattle.bbm_rules.proofs.Common.{◌||◌, ◌==◌, nat_le, nat_lt, List, [], ◌∷◌, length, Contains, slice_index_or, None}
use Rattle.bbm_rules.proofs.Common.{filter, refl, sym, subst, arith, not-suc-le-zero, le_of_suc-le-suc, and_parts}
use Rattle.bbm_rules.proofs.Common.{eqb-true, ltb-true, are_s2_pages, page_count, world_ok, Kind}
use Rattle.bbm_rules.proofs.Common.{is_page, is_root_page, heading_ok, least, Node}
use Rattle.bbm_rules.proofs.Common.{nodes_of_pages, fits_heading, is_pe, is_root_lock, Root, Option}
use Rattle.bbm_regimes.specs.declared.regime.World.{World}
use Rattle.bbm_regimes.specs.declared.regime.World.TheVariants.{Hyp, Kernel}

-- so many pages from an aligned one below 2 ^ 48 end there
abbrev Fits : ℕ → Type 0
Fits n = (page : ℕ) → page < 2 ^ 48 → page % (4096 * n) ≡ 0 → page + 4096 * n ≤ 2 ^ 48

fits_one : Fits 1
fits_one page below aligned = omega arith

-- a stage 2 root has 1, 2, 4, 8 or 16 pages
few : (start pages : ℕ) → are_s2_pages start pages ≡ true → Fits pages
few start pages k = by (start == 0) (pages == 1) (pages == 2) (pages == 4) (pages == 8) (pages == 16) refl refl refl refl refl k
  where
    by : (s a b c d e : Bool) → (pages == 1) ≡ a → (pages == 2) ≡ b → (pages == 4) ≡ c → (pages == 8) ≡ d
        → (pages == 16) ≡ e → cond s a (a || b || c || d || e) ≡ true → Fits pages
    by s true b c d e p q r t u k = subst Fits (sym (eqb-true pages 1 p)) fits_one
    by true false b c d e p q r t u k = let bad : false ≡ true = k in absurd cc
    by false false true c d e p q r t u k = subst Fits (sym (eqb-true pages 2 q)) (λ page below aligned. omega arith)
    by false false false true d e p q r t u k = subst Fits (sym (eqb-true pages 4 r)) (λ page below aligned. omega arith)
    by false false false false true e p q r t u k = subst Fits (sym (eqb-true pages 8 t)) (λ page below aligned. omega arith)
    by false false false false false true p q r t u k = subst Fits (sym (eqb-true pages 16 u)) (λ page below aligned. omega arith)
    by false false false false false false p q r t u k = let bad : false ≡ true = k in absurd cc

counted : (world : World) (kind : Kind) → world_ok world ≡ true → Fits (page_count world kind)
counted (Hyp w) S2 k = few w.s2_start w.s2_pages (third_true (nat_le w.el2_start 2) (nat_le w.s2_start 2) (are_s2_pages w.s2_start w.s2_pages) k)
counted (Hyp w) kind k = fits_one
counted (Kernel w) kind k = fits_one

pub room_for : (heading : Heading) (pe : ℕ) (kind : Kind) (lock : Option ℕ) (page : ℕ) → heading_ok heading ≡ true
    → fits_heading heading (Root pe kind lock page) ≡ true → page + 4096 * page_count heading.world kind ≤ 2 ^ 48
room_for heading pe kind lock page ok fits =
    let both = and_parts (is_page page) (page % (4096 * page_count heading.world kind) == 0)
    (third_true (is_pe heading pe) (is_root_lock lock) (is_root_page heading.world kind page) fits) in
    let inside = and_parts (nat_lt page (2 ^ 48)) (page % 4096 == 0) both.0 in
    counted heading.world kind (ranges heading ok).world
    page (ltb-true page (2 ^ 48) inside.0) (eqb-true (page % (4096 * page_count heading.world kind)) 0 both.1)

module _ (fresh : ℕ → Bool) where
  abbrev AllFresh : List ℕ → Type 0
  AllFresh [] = Unit {0}
  AllFresh (p ∷ ps) = (fresh p ≡ true) × AllFresh ps

  all_of : (ps : List ℕ) → least (filter (λ p. not (fresh p)) ps) ≡ None → AllFresh ps
  all_of [] k = tt
  all_of (p ∷ ps) k = by (all_of ps) (fresh p) refl k
    where
      rest : List ℕ
      rest = filter (λ p. not (fresh p)) ps

      by : (least rest ≡ None → AllFresh ps) → (b : Bool) → fresh p ≡ b → least (cond (not b) (p ∷ rest) rest) ≡ None
          → (fresh p ≡ true) × AllFresh ps
      by older true e none = (e, older none)
      by older false e none = let bad : least (p ∷ rest) ≡ None = none in absurd cc

  node_fresh : (kind : Kind) (level root base : ℕ) (ps : List ℕ) → AllFresh ps → (m : Node) (k : ℕ)
      → k < length (nodes_of_pages kind level root base ps) → slice_index_or (nodes_of_pages kind level root base ps) k m ≡ m
      → fresh m.page ≡ true
  node_fresh kind level root base [] all m k below at = absurd (not-suc-le-zero below)
  node_fresh kind level root base (p ∷ ps) all m zero below at =
      subst (λ (x : Node). fresh x.page ≡ true) at all.0
  node_fresh kind level root base (p ∷ ps) all m (suc k) below at =
      node_fresh kind level root (base + 512 * input_pages level) ps all.1 m k (le_of_suc-le-suc below) at

  pub named_fresh : (kind : Kind) (level root base : ℕ) (ps : List ℕ) → least (filter (λ p. not (fresh p)) ps) ≡ None
      → (m : Node) → Contains (nodes_of_pages kind level root base ps) m → fresh m.page ≡ true
  named_fresh kind level root base ps none m c = node_fresh kind level root base ps (all_of ps none) m c.0 c.1 c.2
