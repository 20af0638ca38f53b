use Rattle.bbm_place_map.proofs.Common.{ap, sym, ◌∙◌, arith, value_in, at_index}
use Rattle.bbm_place_map.proofs.Edits.{value_read}
use Rattle.bbm_place_map.specs.Map.{value_at}
use Rattle.bbm_place_map.proofs.map.PlaceMapMemory.value.Goals as goal

pub returns-in-Some : goal.returns-in-Some
unfolding value_at
returns-in-Some c =
    sym (ap (at_index 0 (value_in c.args.self.now.values.items)) (sym c.index.ensures.index ∙ c.in-Some.is)
    ∙ value_read c.args.self.now.values.items c.in-Some.j c.index-in-Some.result.now (omega (arith, c.in-Some.ensures.within)) c.index-in-Some.ensures)

pub returns-in-None : goal.returns-in-None
unfolding value_at
returns-in-None c = sym (ap (at_index 0 (value_in c.args.self.now.values.items)) (sym c.index.ensures.index ∙ c.in-None.is))
