use Rattle.bbm_rules.proofs.Common.{◌+◌, ◌∙◌, arith, subst, sym}
use Rattle.bbm_unmapped.proofs.Known.{CoversFirst, first_end, first_kept, first_taken}
use Rattle.bbm_unmapped.proofs.Tables.{count_is}
use Rattle.bbm_unmapped.specs.Unmapped.{pages_in}
use Rattle.bbm_unmapped.proofs.unmapped.Unmapped.cover_among.Goals.{else-has, then-has}
use Rattle.bbm_unmapped.proofs.unmapped.Unmapped.cover_among.Goals as goal

pub returns-clause-free : goal.returns-clause-free
returns-clause-free c = first_end c.args.outputs.now c.args.self.now c.loop-number.number c.loop-number.self
    (omega (arith, count_is c.args.self.now, c.len-number-end.ensures.len, c.loop-number-test.false)) c.loop-number.invariant

pub loop-number-preserved : goal.loop-number-preserved
unfolding pages_in
loop-number-preserved c = let u = c.loop-number.self in let n = c.loop-number.number in let page = c.at-page.result.0 in
    elim c.if-has.branch [
      | then-has w ↦ subst (CoversFirst c.args.outputs.now (n + 1) c.args.self.now) (sym w.self-is)
          (first_taken c.args.outputs.now c.args.self.now n page u c.loop-number.invariant c.at-page.ensures.at w.set_free.new.self
          (sym c.has.ensures ∙ w.if-has.true) w.set_free.ensures.pages w.set_free.ensures.may w.set_free.ensures.free)
      | else-has w ↦ subst (CoversFirst c.args.outputs.now (n + 1) c.args.self.now) (sym w.self-is)
          (first_kept c.args.outputs.now c.args.self.now n page u c.loop-number.invariant c.at-page.ensures.at
          (sym c.has.ensures ∙ w.if-has.false))
    ]
