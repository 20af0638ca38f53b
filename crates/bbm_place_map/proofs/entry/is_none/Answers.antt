use Rattle.bbm_place_map.proofs.Idling.{none_iff}
use Rattle.bbm_place_map.proofs.entry.is_none.Goals as goal

pub returns : goal.returns
returns c = none_iff c.args.pend.now c.or.result c.or-2.result c.or.ensures c.or-2.ensures c.is_empty.result c.is_empty.ensures
