-- The number of three digits.
use Rattle.bbm_log_grammar.proofs.Common.{sym}
use Rattle.bbm_log_grammar.proofs.Ahead.{three_digits}
use Rattle.bbm_log_grammar.proofs.read_ahead.front.decimal_ahead.Goals as goal

pub returns-else-not-is_decimal-3 : goal.returns-else-not-is_decimal-3
returns-else-not-is_decimal-3 c =
    three_digits c.args.bytes.now c.decimal_worth-one.result c.decimal_worth.result c.decimal_worth-in-len3-up.result
    c.in-len3-up.len_at_least c.if-one-eq0.false (sym c.if-not-is_decimal.ensures) (sym c.if-not-is_decimal-2.ensures)
    (sym c.if-not-is_decimal-3.ensures) c.decimal_worth-one.ensures c.decimal_worth.ensures
    c.decimal_worth-in-len3-up.ensures
