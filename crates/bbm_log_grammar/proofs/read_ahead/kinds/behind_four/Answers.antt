-- The four bytes are those of the number that they make.
use Rattle.bbm_log_grammar.proofs.Ahead.{four_begun}
use Rattle.bbm_log_grammar.proofs.read_ahead.kinds.behind_four.Goals as goal

pub returns-in-len4-up : goal.returns-in-len4-up
returns-in-len4-up c =
    let some = c.in-len4-up.len_at_least in
    let pairs = c.first_pairs-first.ensures in
    four_begun c.args.bytes.now _ _ c.args.word some c.type_inv.bytes (pairs.first some) (pairs.second some)
    c.if-first-second.true
