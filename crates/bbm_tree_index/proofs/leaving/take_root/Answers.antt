use Rattle.bbm_tree_index.proofs.Common.{roles_of}
use Rattle.bbm_rules.proofs.Common.{◌≡◌, ◌<◌, ◌+◌, ◌*◌, ◌^◌, ◌⊎◌, ◌∙◌, ℕ, arith, ap, inl, inr, refl, sym}
use Rattle.std.proofs.lemmas.Bool.{cases_lt}
use Rattle.bbm_tree_index.proofs.Departures.{takes_none, takes_then}
use Rattle.bbm_tree_index.proofs.Growing.{same_keys}
use Rattle.bbm_tree_index.proofs.leaving.take_root.Goals as goal

-- one more of the pages
one_more : (first i at p : ℕ) → at ≡ first + 4096 * i → ((j : ℕ) × (j < i + 1) × (p ≡ first + 4096 * j)) × (p < 2 ^ 48)
    → (((j : ℕ) × (j < i) × (p ≡ first + 4096 * j)) × (p < 2 ^ 48)) ⊎ ((p ≡ at) × (p < 2 ^ 48))
one_more first i at p here k =
    elim (cases_lt k.0.0 i) [
      | inl less ↦ inl ((k.0.0, less, k.0.2), k.1)
      | inr more ↦
          let same : k.0.0 ≡ i = omega (arith, k.0.1) in
          inr (k.0.2 ∙ ap (λ (j : ℕ). first + 4096 * j) same ∙ sym here, k.1)
    ]

pub loop-i-init : goal.loop-i-init
loop-i-init c = record {
  same = record { known = λ p. refl; keys = refl; len = refl };
  pages = refl;
  taken = λ s is d. takes_none s _ (roles_of c.args.roles.now) c.args.map.now (λ p k. absurd (omega (arith, k.0.1))) d;
}

pub take_at-requires-clause-same : goal.take_at-requires-clause-same
take_at-requires-clause-same c = let inv = c.loop-i.invariant in inv.pages ∙ c.requires.same ∙ sym inv.same.keys

pub take_at-requires-clause-goes : goal.take_at-requires-clause-goes
take_at-requires-clause-goes c = let g = c.requires.goes in (g.0, g.1, (c.loop-i.invariant.taken g.0 g.1 g.2).departs)

pub loop-i-preserved : goal.loop-i-preserved
loop-i-preserved c =
    let inv = c.loop-i.invariant in let e = c.take_at.ensures in record {
      same = same_keys e.same inv.same;
      pages = e.pages ∙ inv.pages;
      taken = λ s is d. let before = inv.taken s is d in
          takes_then _ before (e.taken s is before.departs)
          (λ p k. one_more c.args.first c.loop-i.i _ p (omega (arith, c.get.ensures)) k);
    }

pub returns-clause-taken : goal.returns-clause-taken
returns-clause-taken c = λ s is d. let t = c.loop-i.invariant.taken s is d in record {
  departs = t.departs;
  kept = t.kept;
  taken = λ p k. t.taken p ((k.0.0, omega (arith, k.0.1, c.loop-i-test.false), k.0.2), k.1);
}

pub returns-clause-same : goal.returns-clause-same
returns-clause-same c = c.loop-i.invariant.same
