use Rattle.bbm_rules.proofs.Common.{on_ok_weaker}
use Rattle.bbm_certify.proofs.Counted.{among_put}
use Rattle.bbm_certify.proofs.places.add_place.Goals as goal

pub returns : goal.returns
returns c = on_ok_weaker c.put.result
    (λ is a. among_put a c.args.place c.args.places.now.items c.put.new.places.items c.index_of-index.result is) c.put.ensures
