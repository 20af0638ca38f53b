use Rattle.bbm_replay.specs.Guarded.{CoversListed}
use Rattle.bbm_replay.proofs.Guarding.{becomes}
use Rattle.bbm_replay.proofs.guard.cover_attached.Goals as goal

pub returns-in-Some : goal.returns-in-Some
returns-in-Some c =
    let e = c.cover_attached.ensures in
    becomes (CoversListed c.args.map.now c.args.pages.now) c.args.kept.now c.in-Some.unmapped
    c.cover_attached.new.self c.in-Some.is (e.pages, e.covers)
