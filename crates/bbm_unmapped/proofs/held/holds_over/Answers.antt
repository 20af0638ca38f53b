use Rattle.bbm_rules.proofs.Common.{◌≡◌, ℕ, ◌+◌, ◌*◌, ◌%◌, ◌∙◌, ap, false, refl, subst, sym, true≢false}
use Rattle.std.proofs.Common.{below_more}
use Rattle.bbm_tree_index.proofs.Places.{number_at}
use Rattle.bbm_unmapped.proofs.HeldLeaves.{maps_at, none_held, one_held}
use Rattle.bbm_unmapped.proofs.held.holds_over.Goals as goal

pub returns-then-holds_at : goal.returns-then-holds_at
returns-then-holds_at c = let map = c.args.map.now in let read = c.args.read.now in let j = c.loop-place.place in
    let first = c.first_position-position in (
      λ e. one_held map read c.args.table c.args.page j
          (number_at c.args.table j (subst (λ (a : ℕ). a % 4096 ≡ 0) first.ensures.place first.ensures.first) c.loop-place-test.true)
          (ap (λ (p : ℕ). maps_at map read c.args.table c.args.page (p + 8 * j)) (sym first.ensures.place)
          ∙ sym c.holds_at.ensures ∙ c.if-holds_at.true),
      λ h. refl,
    )

pub loop-place-preserved : goal.loop-place-preserved
loop-place-preserved c = let map = c.args.map.now in let read = c.args.read.now in let j = c.loop-place.place in
    below_more (λ k. maps_at map read c.args.table c.args.page (c.args.table + 8 * k) ≡ false) j c.loop-place.invariant
    (ap (λ (p : ℕ). maps_at map read c.args.table c.args.page (p + 8 * j)) (sym c.first_position-position.ensures.place)
    ∙ sym c.holds_at.ensures ∙ c.if-holds_at.false)

pub returns : goal.returns
returns c = (
  λ e. absurd (true≢false (sym e)),
  λ h. absurd (none_held c.args.map.now c.args.read.now c.args.table c.args.page c.loop-place.place c.loop-place-test.false c.loop-place.invariant h),
)
