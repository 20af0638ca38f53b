use Rattle.bbm_rules.proofs.Common.{sym, ◌∙◌, arith}
use Rattle.bbm_certify.proofs.Counted.{above_more}
use Rattle.bbm_certify.proofs.sorted.count_before.Goals as goal

pub loop-count-preserved : goal.loop-count-preserved
loop-count-preserved c = record {
  within = omega (arith, c.loop-count.invariant.within);
  above = above_more c.args.claims.now c.loop-count.count c.args.claim.now c.index-claims-count.result c.loop-count-test.true
      c.index-claims-count.is (sym c.comes_before.ensures ∙ c.if-comes_before.false) c.loop-count.invariant.above;
}
