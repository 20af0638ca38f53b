use Rattle.bbm_unmapped.proofs.Known.{CoversFirst}
use Rattle.bbm_unmapped.proofs.unmapped.Unmapped.cover_among.Given as goal

abbrev pub invariant-loop-number : goal.invariant-loop-number
invariant-loop-number l = CoversFirst l.outputs l.number l.fn.self l.self
