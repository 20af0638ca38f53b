use Rattle.bbm_place_map.proofs.Common.{ℕ, Option, ap, sym, ◌∙◌, arith, core_of, Core, value_in, at_index, state_from}
use Rattle.bbm_place_map.proofs.Edits.{value_read}
use Rattle.bbm_place_map.specs.Map.{marks_at, value_at}
use Rattle.bbm_place_map.proofs.map.PlaceMap.state_by.Goals as goal

pub returns-in-Some : goal.returns-in-Some
unfolding value_at
returns-in-Some c =
    let self = c.args.self.now in
    let at = sym c.index.ensures.index ∙ c.in-Some.is in
    c.state_of.ensures c.args.place at
    ∙ ap (λ (o : Option Core). state_from o (marks_at self c.args.place))
    (c.core.ensures.value
    ∙ ap (λ (v : ℕ). core_of c.args.kind c.args.level v)
    (sym (ap (at_index 0 (value_in self.values.items)) at
    ∙ value_read self.values.items c.in-Some.j c.index-in-Some.result.now (omega (arith, c.in-Some.ensures.within)) c.index-in-Some.ensures)))
