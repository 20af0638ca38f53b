use Rattle.bbm_place_map.proofs.Common.{ap, sym, ◌∙◌, arith, at_index, None, entry_at}
use Rattle.bbm_place_map.proofs.map.PlaceMap.entry.Goals as goal

pub entry-requires : goal.entry-requires
entry-requires c = omega (arith, c.args.self.now.counted, c.args.self.now.paged)

pub returns : goal.returns
returns c = λ a at. c.entry.ensures ∙ sym (ap (at_index None (entry_at c.args.self.now.broken)) at)
