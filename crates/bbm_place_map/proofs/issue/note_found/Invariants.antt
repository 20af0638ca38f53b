use Rattle.bbm_place_map.proofs.Common.{take, EachAdvances, NotesFound}
use Rattle.bbm_place_map.proofs.issue.note_found.Given as goal

abbrev pub invariant-loop-i : goal.invariant-loop-i
invariant-loop-i l = EachAdvances (λ _. NotesFound (take l.i l.found) l.tlbi) l.initial.broken l.broken
