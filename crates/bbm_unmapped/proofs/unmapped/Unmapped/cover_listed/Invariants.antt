use Rattle.bbm_unmapped.proofs.Common.{Covers}
use Rattle.bbm_unmapped.proofs.Coverings.{Among, PlaceOver}
use Rattle.bbm_unmapped.proofs.unmapped.Unmapped.cover_listed.Given as goal

abbrev pub invariant-loop-place : goal.invariant-loop-place
invariant-loop-place l = Covers (Among (PlaceOver l.map l.listed) l.place) l.fn.self l.self
