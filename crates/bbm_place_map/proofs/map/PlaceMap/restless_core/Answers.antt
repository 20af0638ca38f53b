use Rattle.bbm_place_map.proofs.Common.{refl, ap, ◌∙◌, marks_of, place_entry, ℕ}
use Rattle.bbm_place_map.proofs.Restless.{entry_here, place_is}
use Rattle.bbm_place_map.specs.Map.{marks_at, restless_in, restless_place}
use Rattle.bbm_place_map.proofs.map.PlaceMap.restless_core.Goals as goal

pub returns : goal.returns
unfolding marks_at restless_in restless_place
returns c =
    let self = c.args.self.now in
    let e = c.item.result.now in (
      e.marks,
      ap (λ (a : ℕ). marks_of (place_entry self a)) (place_is self c.args.i e c.item.ensures)
          ∙ ap marks_of (entry_here self c.law_once.ensures c.args.i e c.item.ensures),
      refl,
    )
