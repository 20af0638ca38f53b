use Rattle.bbm_rules.proofs.Common.{◌≡◌, false, take, any}
use Rattle.bbm_oracle_trees.specs.Emptied.{is_seat}
use Rattle.bbm_oracle_trees.proofs.emptied.has_seat.Given as goal

abbrev pub invariant-loop-other : goal.invariant-loop-other
invariant-loop-other l = any (is_seat l.seat.kind l.seat.level l.seat.place) (take l.other-index l.seats) ≡ false
