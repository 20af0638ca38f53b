use Rattle.bbm_replay.proofs.Common.{fresh_in}
use Rattle.bbm_rules.proofs.Common.{◌≡◌, ℕ, ◌+◌, ◌*◌, ◌≤◌, false, sym, ◌∙◌, ap, arith}
use Rattle.bbm_replay.proofs.Counting.{first_unfresh, none_unfresh}
use Rattle.bbm_replay.proofs.trees.first_unfresh.Goals as goal

pub returns-then-not-is_fresh_address : goal.returns-then-not-is_fresh_address
returns-then-not-is_fresh_address c =
    let i = c.loop-i.i in
    let here : fresh_in c.args.index.now (c.args.page + 4096 * i) ≡ false
    = ap (λ (x : ℕ). fresh_in c.args.index.now (c.args.page + 4096 * x)) (sym c.from.ensures)
    ∙ ap (λ (x : ℕ). fresh_in c.args.index.now (x + 4096 * c.from.result)) (sym c.get.ensures.value)
    ∙ sym c.is_fresh_address.ensures ∙ c.if-not-is_fresh_address.true in
    rw (c.get.ensures.value, c.from.ensures)
    (sym (first_unfresh (fresh_in c.args.index.now) c.args.count c.args.page i c.loop-i-test.true c.loop-i.invariant here))

pub returns : goal.returns
returns c =
    let all : c.args.count ≤ c.loop-i.i = c.loop-i-test.false in
    sym (none_unfresh (fresh_in c.args.index.now) c.args.count c.args.page (λ k below. c.loop-i.invariant k (omega arith)))
