use Rattle.bbm_unmapped.proofs.Common.{IsTarget, LeastOf, maps, value_at}
use Rattle.bbm_rules.proofs.Common.{◌≡◌, ℕ, ◌+◌, ◌*◌, ◌%◌, ◌∙◌, ap, arith, subst, true}
use Rattle.bbm_tree_index.proofs.Leasts.{least_step}
use Rattle.bbm_unmapped.proofs.Targets.{TargetAt, all_places}
use Rattle.bbm_unmapped.proofs.unmapped.Unmapped.target_below.Goals as goal

pub loop-place-preserved : goal.loop-place-preserved
loop-place-preserved c = let listed = c.args.listed.now in let j = c.loop-place.place in let value = value_at
    c.args.map.now in
    let read : c.value_from-value.result ≡ value (listed.page + 8 * j) = c.value_from-value.ensures
    ∙ ap (λ (a : ℕ). value (a + 8 * j)) c.first_position-position.ensures.place in
    least_step (TargetAt c.args.pages.now c.args.self.now c.args.index.now c.args.map.now listed) j c.loop-place.least
    c.target_under-found.result
    c.lesser_page-least.result c.lesser_page-least.ensures c.loop-place.invariant
    (subst (λ (v : ℕ). LeastOf (λ page. (maps listed.standing.kind listed.standing.level v page ≡ true)
    × IsTarget c.args.self.now c.args.pages.now c.args.index.now page) c.target_under-found.result) read
    c.target_under-found.ensures)

pub returns : goal.returns
returns c = let first = c.first_position-position in
    all_places c.args.pages.now c.args.self.now c.args.index.now c.args.map.now c.args.listed.now c.loop-place.place
    c.loop-place.least
    (subst (λ (a : ℕ). a % 4096 ≡ 0) first.ensures.place first.ensures.first)
    (omega (arith, c.loop-place-test.false, c.loop-place.auto.place-end)) c.loop-place.invariant
