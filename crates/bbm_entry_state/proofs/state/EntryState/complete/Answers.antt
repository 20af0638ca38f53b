use Rattle.std.proofs.Common.{sym, ◌∙◌}
use Rattle.bbm_entry_state.specs.Answered.{Answered}
use Rattle.bbm_entry_state.proofs.Completing.{completes_all, completes_some}
use Rattle.bbm_entry_state.proofs.state.EntryState.complete.Goals as goal

pub returns-then-is_clean : goal.returns-then-is_clean
returns-then-is_clean c =
    let masks : Answered c.in-Broken.marks c.args.pends c.args.dsb c.answered.result c.answered-marks.result = record {
      answers = c.answered.ensures;
      core = c.answered-marks.ensures.core;
      writers = c.answered-marks.ensures.writers;
      seen = c.answered-marks.ensures.seen;
      half = c.answered-marks.ensures.half;
      clean = c.answered-marks.ensures.clean;
    } in
    rw c.in-Broken.is (completes_all c.in-Broken.marks c.answered-marks.result c.args.pends c.none-then-is_clean.result c.args.dsb c.answered.result c.args.n masks
    (sym c.is_clean.ensures ∙ c.if-is_clean.true) c.none-then-is_clean.ensures)

pub returns-else-is_clean : goal.returns-else-is_clean
returns-else-is_clean c =
    let masks : Answered c.in-Broken.marks c.args.pends c.args.dsb c.answered.result c.answered-marks.result = record {
      answers = c.answered.ensures;
      core = c.answered-marks.ensures.core;
      writers = c.answered-marks.ensures.writers;
      seen = c.answered-marks.ensures.seen;
      half = c.answered-marks.ensures.half;
      clean = c.answered-marks.ensures.clean;
    } in
    rw c.in-Broken.is (completes_some c.in-Broken.marks c.answered-marks.result c.args.pends c.left_by-else-is_clean.result c.args.dsb c.answered.result c.args.n masks
    (sym c.is_clean.ensures ∙ c.if-is_clean.false) c.left_by-else-is_clean.ensures)
