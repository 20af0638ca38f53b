-- The levels below are what remains.
use Rattle.std.proofs.Common.{◌-◌}
use Rattle.bbm_descriptor.proofs.walk.+walk_from.Given as goal

abbrev pub decreases-walk_from : goal.decreases-walk_from
decreases-walk_from g l = 3 - l.level
