-- what is left of the bytes at hand
use Rattle.std.proofs.Common.{ap}
use Rattle.bbm_io.specs.Streams.{Reader}
use Rattle.bbm_io.proofs.Readers.{hand-rest}
use Rattle.bbm_io.proofs.streams.StdSourceSource.consume.Goals as goal

pub returns-clause-rest : goal.returns-clause-rest
returns-clause-rest g c =
    let s = c.self.inside in
    hand-rest _ s.buffer s.at c.args.count s.end (ap (λ (x : Reader _). x.at_hand) c.self.view_is) c.requires
