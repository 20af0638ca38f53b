use Rattle.bbm_rules.proofs.Common.{refl, sym, ◌∙◌}
use Rattle.bbm_claims.proofs.Flushed.{flush_answered, flush_lost, flush_not, flush_yes}
use Rattle.bbm_claims.proofs.marks.flush_before.Goals.{else-is_flush-via-then-is_flush+else-not-is_answered}
use Rattle.bbm_claims.proofs.marks.flush_before.Goals.{else-is_flush-via-else-is_flush}
use Rattle.bbm_claims.proofs.marks.flush_before.Goals as goal

pub returns-then-not-is_answered-clause-marks : goal.returns-then-not-is_answered-clause-marks
returns-then-not-is_answered-clause-marks c = λ mark.
    flush_yes c.args.header.now c.args.flush.now.place c.args.flush.now.pe c.args.issuer c.args.flush.now.cover
    c.args.dsb mark
    c.args.log.now c.args.flush.now.t c.in-Some.i c.index-log-i.result c.in-Some.ensures.found c.index-log-i.is
    c.index-log-i-then-is_flush.result (sym c.is_flush.ensures ∙ c.if-is_flush.true)
    (sym c.is_answered.ensures ∙ c.if-not-is_answered.true)

pub returns-else-is_flush-clause-marks : goal.returns-else-is_flush-clause-marks
returns-else-is_flush-clause-marks c = λ mark.
    elim c.else-is_flush.branch [
      | else-is_flush-via-then-is_flush+else-not-is_answered w ↦
          flush_answered c.args.header.now c.args.flush.now.place c.args.flush.now.pe c.args.issuer
          c.args.flush.now.cover c.args.dsb mark
          c.args.log.now c.args.flush.now.t c.in-Some.i c.index-log-i.result c.in-Some.ensures.found c.index-log-i.is
          w.index-log-i-then-is_flush.result (sym w.is_answered.ensures ∙ w.if-not-is_answered.false)
      | else-is_flush-via-else-is_flush w ↦
          flush_not c.args.header.now c.args.flush.now.place c.args.flush.now.pe c.args.issuer c.args.flush.now.cover
          c.args.dsb mark
          c.args.log.now c.args.flush.now.t c.in-Some.i c.index-log-i.result c.in-Some.ensures.found c.index-log-i.is
          (sym c.is_flush.ensures ∙ w.if-is_flush.false)
    ]

pub returns-in-None-clause-marks : goal.returns-in-None-clause-marks
returns-in-None-clause-marks c = λ mark.
    flush_lost c.args.header.now c.args.flush.now.place c.args.flush.now.pe c.args.issuer c.args.flush.now.cover
    c.args.dsb mark
    c.args.log.now c.args.flush.now.t (c.in-None.ensures.none refl)
