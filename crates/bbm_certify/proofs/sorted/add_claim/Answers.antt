use Rattle.bbm_rules.proofs.Common.{sym, ◌∙◌, arith, on_ok_weaker}
use Rattle.bbm_certify.proofs.Counted.{put_before, put_last, put_not}
use Rattle.bbm_certify.proofs.sorted.add_claim.Goals as goal

pub returns-then-count-len : goal.returns-then-count-len
returns-then-count-len c = on_ok_weaker c.put.result (λ is.
    put_last c.args.claims.now.items c.deref.result.now c.count_before-count.result c.args.claim.now c.deref.ensures.value
    c.put.new.claims.items c.count_before-count.ensures.within c.count_before-count.ensures.last is
    (omega (arith, c.if-count-len.true, c.len.ensures))) c.put.ensures

pub returns-then-comes_before : goal.returns-then-comes_before
returns-then-comes_before c = on_ok_weaker c.put-then-comes_before.result (λ is.
    put_before c.args.claims.now.items c.deref.result.now c.count_before-count.result c.args.claim.now c.deref.ensures.value
    c.put-then-comes_before.new.claims.items c.count_before-count.ensures.within c.count_before-count.ensures.last is
    c.index.result.now c.index.ensures (sym c.comes_before.ensures ∙ c.if-comes_before.true)
    (omega (arith, c.if-count-len.false, c.len.ensures))) c.put-then-comes_before.ensures

pub returns : goal.returns
returns c =
    put_not c.args.claims.now.items c.deref.result.now c.count_before-count.result c.args.claim.now c.deref.ensures.value
    c.index.result.now c.count_before-count.ensures.above c.index.ensures
    (sym c.comes_before.ensures ∙ c.if-comes_before.false) (omega (arith, c.if-count-len.false, c.len.ensures))
