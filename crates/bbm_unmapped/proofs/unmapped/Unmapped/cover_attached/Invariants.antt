use Rattle.bbm_unmapped.proofs.Common.{Covers}
use Rattle.bbm_unmapped.proofs.Coverings.{Among, ListedOver}
use Rattle.bbm_unmapped.proofs.unmapped.Unmapped.cover_attached.Given as goal

abbrev pub invariant-loop-listed : goal.invariant-loop-listed
invariant-loop-listed l = Covers (Among (ListedOver l.map l.pages) l.listed-index) l.fn.self l.self
