-- One more byte of a line was taken and kept.
use Rattle.std.proofs.Common.{rules, arith}
use Rattle.bbm_io.proofs.Flow.{took-more, plain-append}
use Rattle.bbm_io.proofs.lines.read_line.Goals as goal

pub loop-taken-preserved : goal.loop-taken-preserved
loop-taken-preserved g c = record {
  took = rw c.push.ensures.items (took-more _ _ _ _ _ c.loop-taken.invariant.took c.in-Byte.ensures.gave);
  counted = search rules;
  within = omega arith;
  short = search rules;
  plain = rw c.push.ensures.items (plain-append c.loop-taken.line.items c.in-Byte.byte c.loop-taken.invariant.plain c.if-byte-eq10.false);
  sound = search rules;
}
