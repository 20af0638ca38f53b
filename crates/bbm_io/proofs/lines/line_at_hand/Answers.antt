use Rattle.std.proofs.Common.{arith}
use Rattle.bbm_io.proofs.Newlines.{lies-whole}
use Rattle.bbm_io.proofs.lines.line_at_hand.Goals as goal

pub returns : goal.returns
returns c = lies-whole c.first_newline.result c.args.bytes.now _ c.first_newline.ensures (omega arith)
