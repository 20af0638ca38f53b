use Rattle.bbm_place_map.proofs.Bases.{numbered_in}
use Rattle.bbm_place_map.proofs.Common.{◌+◌, ap, sym, ◌∙◌, arith, vec_len, bases, value_in, at_index}
use Rattle.bbm_place_map.proofs.Edits.{value_read}
use Rattle.bbm_place_map.proofs.Places.{index_behind, page_inside}
use Rattle.bbm_place_map.specs.Map.{value_at}
use Rattle.bbm_place_map.proofs.map.PlaceMap.value_from.Goals as goal

pub returns : goal.returns
unfolding value_at
returns c =
    let self = c.args.self.now in
    let position = c.args.position.now in
    let n = c.args.number in
    let base = bases self.pages in
    let r = c.requires in
    let within = page_inside base (vec_len self.values) (numbered_in self) position.place c.value_number-j.result n c.value_number-j.ensures.index r.first r.within in
    let at = index_behind base (vec_len self.values) (numbered_in self) position.place c.value_number-j.result n c.value_number-j.ensures.index r.first r.within in
    sym (ap (at_index 0 (value_in self.values.items)) at
    ∙ value_read self.values.items (c.value_number-j.result + n) c.index.result.now (omega (arith, within)) c.index.ensures)
