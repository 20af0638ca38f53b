use Rattle.bbm_roots.proofs.Common.{◌||◌, ◌&&◌, is_clash, ReadingUpTo, is_reading, has_other}
use Rattle.bbm_roots.specs.Holds.{keeps_other}
use Rattle.bbm_roots.proofs.Common.{or_assoc}
use Rattle.bbm_roots.proofs.Tests.{least-same}
use Rattle.bbm_roots.proofs.search.with_clash.Goals as goal
use Rattle.std.proofs.Common.{sym}

pub returns : goal.returns
returns c = λ test h.
    let y = c.args.reading.now in
    let seen = c.args.seen.now in
    let holds = c.args.holds.now in
    let n = c.args.n in
    least-same ReadingUpTo _ (λ x. test x || is_clash holds n seen x y)
    (λ x. sym (or_assoc (test x) (is_reading x.tag x.root y && has_other x.tag x.root seen)
    (keeps_other holds n y x)))
    c.with_keeper.result
    (c.with_keeper.ensures (λ x. test x || (is_reading x.tag x.root y && has_other x.tag x.root seen)) (c.with_reading.ensures test h))
