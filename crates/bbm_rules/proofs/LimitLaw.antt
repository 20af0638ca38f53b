-- An event reaches a limit exactly where the number that the limit counts is there.
use Rattle.bbm_rules.proofs.Common.{◌≡◌, ◌↔◌, ℕ, ◌≤◌, Bool, true, false, not, ◌&&◌, nat_le, List, length, Option, Some}
use Rattle.bbm_rules.proofs.Common.{refl, ap, and_from, and_parts, le-leb, leb-true, not-true, not_from_false, Which}
use Rattle.bbm_rules.proofs.Common.{Pages, Roots, limit_of, among, if_so, initialised, Event, Init, Msr, Reg, Root}
use Rattle.bbm_rules.proofs.Common.{register_values, roots_of}
use Rattle.bbm_regimes.specs.declared.regime.Which.TheVariants.{Values}
use Rattle.bbm_rules.specs.Prelude.{Kind}

so : (b : Bool) (which : Which) → if_so b which ≡ Some which → b ≡ true
so true which e = refl
so false which e = cc

so_then : (b : Bool) (which : Which) → b ≡ true → if_so b which ≡ Some which
so_then b which e = ap (λ c. if_so c which) e

reached : (limit n : ℕ) (which : Which) → (if_so (nat_le limit n) which ≡ Some which) ↔ (limit ≤ n)
reached limit n which = (
  λ e. leb-true limit n (so (nat_le limit n) which e),
  λ l. so_then (nat_le limit n) which (le-leb limit n l),
)

pub pages : (h : List Event) (pe page : ℕ) → (limit_of h (Init pe page) ≡ Some Pages)
    ↔ ((among page (initialised h) ≡ false) × (16384 ≤ length (initialised h)))
pages h pe page =
    let known = among page (initialised h) in
    let full = nat_le 16384 (length (initialised h)) in (
      λ e.
          let r = and_parts (not known) full (so (not known && full) Pages e) in
          (not-true known r.0, leb-true 16384 (length (initialised h)) r.1),
      λ k.
          so_then (not known && full) Pages
          (and_from (not known) full (not_from_false known k.0) (le-leb 16384 (length (initialised h)) k.1)),
    )

pub roots : (h : List Event) (pe : ℕ) (kind : Kind) (lock : Option ℕ) (page : ℕ)
    → (limit_of h (Root pe kind lock page) ≡ Some Roots) ↔ (1024 ≤ length (roots_of h))
roots h pe kind lock page = reached 1024 (length (roots_of h)) Roots

pub values : (h : List Event) (pe : ℕ) (reg : Reg) (value : ℕ)
    → (limit_of h (Msr pe reg value) ≡ Some Values) ↔ (9 ≤ length (register_values h pe reg))
values h pe reg value = reached 9 (length (register_values h pe reg)) Values

pub ruleset laws = (pages, roots, values)
