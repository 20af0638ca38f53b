use Rattle.bbm_roots.proofs.Common.{nat_eq, ◌∙◌, arith, ◌≡◌, ℕ, zero, suc, ◌<◌, Bool, true, false, cond, List, [], ◌∷◌}
use Rattle.bbm_roots.proofs.Common.{length, Some, None, lookup}
use Rattle.bbm_roots.specs.Listed.{nth_in}
use Rattle.std.proofs.Common.{slice_get}
use Rattle.std.specs.Option.{option_map}
use Rattle.bbm_roots.proofs.roots.Roots.count.Goals as goal

-- a root that is found by its page has a number
numbered : {X : Type 0} (test : ℕ → Bool) (es : List (ℕ × X)) (x : X) → lookup test es ≡ Some x
    → (i : ℕ) × (i < length es) × (option_map (λ (e : ℕ × X). e.1) (slice_get es i) ≡ Some x)
numbered {X} test [] x k = let bad : None ≡ Some x = k in absurd cc
numbered {X} test (e ∷ es) x k = by (test e.0) k (numbered test es x)
  where
    by : (b : Bool) → cond b (Some e.1) (lookup test es) ≡ Some x
        → (lookup test es ≡ Some x → (i : ℕ) × (i < length es) × (option_map (λ (p : ℕ × X). p.1) (slice_get es i) ≡ Some x))
        → (i : ℕ) × (i < length (e ∷ es)) × (option_map (λ (p : ℕ × X). p.1) (slice_get (e ∷ es) i) ≡ Some x)
    by true k rest = (zero, omega arith, k)
    by false k rest = let found = rest k in (suc found.0, omega arith, found.2)

pub returns-clause-count : goal.returns-clause-count
returns-clause-count c heading h stands = let count = stands.count in omega arith

pub returns-clause-each : goal.returns-clause-each
unfolding nth_in
returns-clause-each c heading h page root stands is =
    let found = numbered (nat_eq page) c.args.self.now.declared.entries root (stands.declared page ∙ is) in
    (found.0, omega arith, found.2)
