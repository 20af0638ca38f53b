-- The first lanes are digits, and write the number of all lanes without its last digits.
use Rattle.bbm_log_grammar.proofs.Common.{is_lower_digit}
use Rattle.bbm_log_grammar.proofs.Lanes.{run_ahead, digits_ahead}
use Rattle.bbm_log_grammar.proofs.read_ahead.front.digits_ahead.Goals as goal

pub returns : goal.returns
returns c =
    let bytes = c.args.bytes.now in
    let count = c.digit_run-count.result in
    let run = c.digit_run-count.ensures in
    digits_ahead bytes count c.number_in.result c.if-bytes-lt16.false c.if-count-eq0.false run.few
    (c.leads.ensures c.if-not-leads.false) (run_ahead (is_lower_digit 16) bytes 16 count run.few run.run)
    c.number_in.ensures c.number_in.type_inv
