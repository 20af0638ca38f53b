use Rattle.bbm_replay.specs.Guarded.{Initialises}
use Rattle.bbm_replay.proofs.Guarding.{becomes}
use Rattle.bbm_replay.proofs.guard.init.Goals as goal

pub returns-in-Some : goal.returns-in-Some
returns-in-Some c =
    let e = c.init.ensures in
    becomes (Initialises c.args.index.now c.args.map.now c.args.page) c.args.kept.now c.in-Some.unmapped
    c.init.new.self c.in-Some.is
    (e.pages, record { others = e.others; kept = e.kept; found = e.found; missed = e.missed }, e.bounds)
