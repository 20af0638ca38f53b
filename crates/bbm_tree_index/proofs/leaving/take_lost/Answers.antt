use Rattle.bbm_tree_index.proofs.Common.{roles_of}
use Rattle.bbm_rules.proofs.Common.{◌≡◌, ◌<◌, ◌+◌, ◌⊎◌, ◌∙◌, ℕ, List, Some, arith, ap, inl, inr, length, refl, slice_get, slice_index_or}
use Rattle.bbm_rules.proofs.Common.{subst, sym}
use Rattle.std.proofs.lemmas.Bool.{cases_lt}
use Rattle.std.proofs.lemmas.Option.{get_or_from_slice_get}
use Rattle.bbm_place_map.specs.Map.{lost_pages}
use Rattle.bbm_tree_index.proofs.Departures.{takes_none, takes_then}
use Rattle.bbm_tree_index.proofs.Growing.{same_keys}
use Rattle.bbm_tree_index.proofs.leaving.take_lost.Goals as goal

-- one more of the pages
one_more : (pages : List ℕ) (i page p : ℕ) → slice_get pages i ≡ Some page
    → (j : ℕ) × (j < i + 1) × (slice_index_or pages j p ≡ p) → ((j : ℕ) × (j < i) × (slice_index_or pages j p ≡ p)) ⊎ (p ≡ page)
one_more pages i page p at k =
    elim (cases_lt k.0 i) [
      | inl less ↦ inl (k.0, less, k.2)
      | inr more ↦
          let same : k.0 ≡ i = omega (arith, k.1) in
          inr (sym k.2 ∙ ap (λ (j : ℕ). slice_index_or pages j p) same ∙ get_or_from_slice_get pages i page p at)
    ]

pub loop-i-init : goal.loop-i-init
loop-i-init c = record {
  same = record { known = λ p. refl; keys = refl; len = refl };
  pages = refl;
  lost = refl;
  taken = λ s is d. takes_none s _ (roles_of c.args.roles.now) c.args.map.now (λ p k. absurd (omega (arith, k.1))) d;
}

pub lost_page-page-requires : goal.lost_page-page-requires
lost_page-page-requires c =
    subst (λ (xs : List ℕ). c.loop-i.i < length xs) (sym c.loop-i.invariant.lost)
    (omega (arith, c.loop-i-test.true, c.lost_len-i-end.ensures))

pub take_page-requires-clause-same : goal.take_page-requires-clause-same
take_page-requires-clause-same c = let inv = c.loop-i.invariant in inv.pages ∙ c.requires.same ∙ sym inv.same.keys

pub take_page-requires-clause-goes : goal.take_page-requires-clause-goes
take_page-requires-clause-goes c = let g = c.requires.goes in (g.0, g.1, (c.loop-i.invariant.taken g.0 g.1 g.2).departs)

pub loop-i-preserved : goal.loop-i-preserved
loop-i-preserved c =
    let inv = c.loop-i.invariant in let e = c.take_page.ensures in
    let at : slice_get (lost_pages c.args.map.now) c.loop-i.i ≡ Some c.lost_page-page.result
    = ap (λ (xs : List ℕ). slice_get xs c.loop-i.i) (sym inv.lost) ∙ c.lost_page-page.ensures in record {
      same = same_keys e.same inv.same;
      pages = e.pages ∙ inv.pages;
      lost = e.lost ∙ inv.lost;
      taken = λ s is d. let before = inv.taken s is d in
          takes_then _ before (e.taken s is before.departs)
          (λ p k. one_more (lost_pages c.args.map.now) c.loop-i.i c.lost_page-page.result p at k);
    }

pub returns-clause-taken : goal.returns-clause-taken
returns-clause-taken c = λ s is d. let t = c.loop-i.invariant.taken s is d in record {
  departs = t.departs;
  kept = t.kept;
  taken = λ p k. t.taken p (k.0, omega (arith, k.1, c.loop-i-test.false, c.lost_len-i-end.ensures), k.2);
}

pub returns-clause-same : goal.returns-clause-same
returns-clause-same c = c.loop-i.invariant.same
