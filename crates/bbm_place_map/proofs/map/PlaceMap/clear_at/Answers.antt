use Rattle.bbm_place_map.proofs.Common.{refl, sym, ◌∙◌, state_at}
use Rattle.bbm_place_map.proofs.Wholes.{writes_over}
use Rattle.bbm_place_map.specs.Map.{pages_of, marks_at, pends_at, value_at}
use Rattle.bbm_place_map.proofs.map.PlaceMap.clear_at.Goals as goal

pub returns-in-Live : goal.returns-in-Live
unfolding pages_of marks_at pends_at value_at
returns-in-Live c =
    let self = c.args.self.now in
    let live = c.args.live.now in
    writes_over c.clear_from.ensures (state_at self live c.args.position.now.place) self
    (sym c.in-Live.is ∙ c.state_of.ensures c.args.position.now.place c.value_number-j.ensures.index)
    (λ a. refl) refl (λ a. refl) (λ q a. refl)

pub returns-in-Broken : goal.returns-in-Broken
unfolding pages_of marks_at pends_at value_at
returns-in-Broken c =
    let self = c.args.self.now in
    let live = c.args.live.now in
    writes_over c.clear_from-in-Broken.ensures (state_at self live c.args.position.now.place) self
    (sym c.in-Broken.is ∙ c.state_of.ensures c.args.position.now.place c.value_number-j.ensures.index)
    (λ a. refl) refl (λ a. refl) (λ q a. refl)

pub returns-in-Clean : goal.returns-in-Clean
unfolding pages_of marks_at pends_at value_at
returns-in-Clean c =
    let self = c.args.self.now in
    let live = c.args.live.now in
    writes_over c.clear_from-in-Clean.ensures (state_at self live c.args.position.now.place) self
    (sym c.in-Clean.is ∙ c.state_of.ensures c.args.position.now.place c.value_number-j.ensures.index)
    (λ a. refl) refl (λ a. refl) (λ q a. refl)
