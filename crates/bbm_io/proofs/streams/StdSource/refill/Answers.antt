-- what was read stands behind the bytes at hand
use Rattle.std.proofs.Common.{◌-◌, slice_range}
use Rattle.bbm_io.proofs.Readers.{behind-hand}
use Rattle.bbm_io.proofs.streams.StdSource.refill.Goals as goal

pub returns-in-Ok-clause-behind : goal.returns-in-Ok-clause-behind
returns-in-Ok-clause-behind g c =
    let count = c.self.inside.end - c.self.inside.at in
    let now = c.read_behind.new.buffer in
    rw (← c.self.view_is) (slice_range now count c.in-Ok.end, behind-hand now _ _ count c.in-Ok.end c.in-Ok.ensures.front c.move_to_front.ensures c.in-Ok.ensures.grows, c.in-Ok.ensures.bytes)
