use Rattle.bbm_unmapped.proofs.Common.{Before, LeastOf}
use Rattle.bbm_unmapped.proofs.Tables.{TableAt}
use Rattle.bbm_unmapped.proofs.unmapped.Unmapped.table_among.Given as goal

abbrev pub invariant-loop-number : goal.invariant-loop-number
invariant-loop-number l = LeastOf (Before (TableAt l.self l.index l.outputs) l.number) l.least
