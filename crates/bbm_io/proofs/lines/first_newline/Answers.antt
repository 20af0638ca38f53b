use Rattle.bbm_io.proofs.Newlines.{first-of-places}
use Rattle.bbm_io.proofs.lines.first_newline.Goals as goal

pub returns : goal.returns
returns c = first-of-places c.args.bytes.now c.memchr_iter.result c.next.result c.next.new.self c.memchr_iter.ensures.value c.next.ensures.steps
