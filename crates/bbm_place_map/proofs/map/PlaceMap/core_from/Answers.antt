use Rattle.bbm_place_map.proofs.Bases.{numbered_in}
use Rattle.bbm_place_map.proofs.Common.{ℕ, ◌+◌, ◌*◌, Option, ap, ◌∙◌, vec_len, bases, core_of, Core, core_in}
use Rattle.bbm_place_map.proofs.Common.{state_from}
use Rattle.bbm_place_map.proofs.Places.{index_behind, page_inside}
use Rattle.bbm_place_map.specs.Map.{marks_at}
use Rattle.bbm_place_map.proofs.map.PlaceMap.core_from.Goals as goal

pub core_or-requires : goal.core_or-requires
core_or-requires c =
    let self = c.args.self.now in
    let position = c.args.position.now in
    let r = c.requires in
    page_inside (bases self.pages) (vec_len self.values) (numbered_in self) position.place c.value_number-j.result c.args.number c.value_number-j.ensures.index r.first r.within

pub returns : goal.returns
returns c =
    let self = c.args.self.now in
    let position = c.args.position.now in
    let n = c.args.number in
    let r = c.requires in
    let at = index_behind (bases self.pages) (vec_len self.values) (numbered_in self) position.place c.value_number-j.result n c.value_number-j.ensures.index r.first r.within in
    c.core_or.ensures (position.place + 8 * n) at
    ∙ ap (λ (o : Option Core). core_in (state_from o (marks_at self (position.place + 8 * n))))
    (c.core-live.ensures.value ∙ ap (λ (v : ℕ). core_of c.args.kind c.args.level v) c.value_from.ensures)
