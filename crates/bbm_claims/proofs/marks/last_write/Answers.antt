use Rattle.bbm_rules.proofs.Common.{sym, ◌∙◌}
use Rattle.bbm_claims.proofs.Kepts.{wrote_else, wrote_then}
use Rattle.bbm_claims.proofs.marks.last_write.Goals.{then-writes, else-writes}
use Rattle.bbm_claims.proofs.marks.last_write.Goals as goal

pub loop-i-preserved : goal.loop-i-preserved
loop-i-preserved c =
    elim c.if-writes.branch [
      | then-writes w ↦ w.count-is
          ∙ wrote_then c.args.place c.args.pe c.args.log.now c.loop-i.i c.index-log-i.result c.loop-i.count
          c.loop-i-test.true
          c.index-log-i.is c.loop-i.invariant (sym c.writes.ensures ∙ w.if-writes.true)
      | else-writes w ↦ w.count-is
          ∙ wrote_else c.args.place c.args.pe c.args.log.now c.loop-i.i c.index-log-i.result c.loop-i.count
          c.loop-i-test.true
          c.index-log-i.is c.loop-i.invariant (sym c.writes.ensures ∙ w.if-writes.false)
    ]
