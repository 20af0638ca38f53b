-- The bytes before the first that can't stand in a label.
use Rattle.bbm_log_grammar.proofs.Common.{arith, is_label_byte}
use Rattle.bbm_log_grammar.proofs.Ahead.{label_is}
use Rattle.bbm_log_grammar.proofs.Lanes.{run_ahead}
use Rattle.bbm_log_grammar.proofs.read_ahead.front.label_ahead.Goals as goal

pub told-requires : goal.told-requires
told-requires c =
    let bytes = c.args.bytes.now in
    let count = c.label_run-count.result in
    let run = c.label_run-count.ensures in
    label_is bytes count c.if-count-eq0.false run.few (omega (arith, run.few, c.if-bytes-lt32.false))
    (run_ahead is_label_byte bytes 32 count run.few run.run)
