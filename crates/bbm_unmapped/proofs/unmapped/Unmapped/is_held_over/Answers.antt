use Rattle.bbm_unmapped.proofs.Common.{HeldUnder}
use Rattle.bbm_rules.proofs.Common.{◌∙◌, arith, sym, true≢false}
use Rattle.std.proofs.Common.{below_more}
use Rattle.bbm_unmapped.proofs.HeldLeaves.{some_number}
use Rattle.bbm_unmapped.proofs.Tables.{count_is}
use Rattle.bbm_unmapped.proofs.unmapped.Unmapped.is_held_over.Goals as goal

pub loop-number-preserved : goal.loop-number-preserved
loop-number-preserved c = below_more (λ j. HeldUnder c.args.self.now c.args.index.now c.args.map.now c.args.page j
    → ⊥) c.loop-number.number
    c.loop-number.invariant (λ h. true≢false (sym (c.is_held_under.ensures.1 h) ∙ c.if-is_held_under.false))

pub returns : goal.returns
returns c = (
  λ e. absurd (true≢false (sym e)),
  λ h. let k = some_number c.args.self.now c.args.index.now c.args.map.now c.args.page h in
      absurd (c.loop-number.invariant k.0
      (omega (arith, k.1, count_is c.args.self.now, c.len-number-end.ensures.len, c.loop-number-test.false)) k.2),
)
