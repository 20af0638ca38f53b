use Rattle.bbm_place_map.proofs.Common.{◌<◌, arith, length, slice_get_within, RestsAt}
use Rattle.bbm_place_map.proofs.Holding.{relist_more}
use Rattle.bbm_place_map.proofs.visit.relist.Goals as goal

pub loop-k-preserved : goal.loop-k-preserved
loop-k-preserved c =
    let by = c.args.barrier.now in
    relist_more c.args.broken.now c.loop-k.k c.index-broken-k.result c.loop-k.list c.list_open.new.list
    (λ wide. RestsAt by.effect wide by.n by.issuer) (omega arith) c.index-broken-k.is c.list_open.ensures.there c.list_open.ensures.kept c.loop-k.invariant

pub returns : goal.returns
returns c = λ wide k e is.
    let within : k < length c.args.broken.now = slice_get_within c.args.broken.now k e is in
    c.loop-k.invariant wide k e (omega arith) is
