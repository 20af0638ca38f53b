use Rattle.std.proofs.Common.{◌≡◌, ◌+◌, ◌-◌, ◌^◌, ◌≤◌, length, true}
use Rattle.bbm_io.specs.Flow.{preceded, plain}
use Rattle.bbm_io.proofs.lines.read_line.Given as goal

abbrev pub invariant-loop-taken : goal.invariant-loop-taken
invariant-loop-taken g l =
    record { took : g.S.Source.left l.initial.src ≡ preceded l.line.items (g.S.Source.left l.src); counted : l.taken ≡ l.initial.taken + length l.line.items; within : l.taken ≤ 2 ^ 40; short : length l.line.items ≤ 200; plain : plain l.line.items ≡ true; sound : g.S.Source.faults l.src ≡ g.S.Source.faults l.initial.src }

abbrev pub decreases-loop-taken : goal.decreases-loop-taken
decreases-loop-taken g l = 2 ^ 40 - l.taken
