use Rattle.bbm_place_map.proofs.Common.{EachAdvances, NotesAt}
use Rattle.bbm_place_map.proofs.Keeping.{ChangesBelow}
use Rattle.bbm_place_map.proofs.issue.note.Given as goal

abbrev pub invariant-loop-k : goal.invariant-loop-k
invariant-loop-k l = EachAdvances (ChangesBelow (NotesAt l.covers l.tlbi) l.k) l.initial.broken l.broken
