use Rattle.std.proofs.Common.{◌≡◌, ◌-◌, ◌≤◌, length, take}
use Rattle.bbm_io.specs.Flow.{extended}
use Rattle.bbm_io.proofs.sink.put.Given as goal

abbrev pub invariant-loop-done : goal.invariant-loop-done
invariant-loop-done g l =
    record { within : l.done ≤ length l.piece; wrote : g.K.Sink.held l.out ≡ extended (g.K.Sink.held l.initial.out) (take l.done l.piece); sound : g.K.Sink.faults l.out ≡ g.K.Sink.faults l.initial.out }

abbrev pub decreases-loop-done : goal.decreases-loop-done
decreases-loop-done g l = length l.piece - l.done
