use Rattle.bbm_place_map.proofs.Common.{Option, ap, ◌∙◌, Entry, marks_of, state_from}
use Rattle.bbm_place_map.specs.Map.{marks_at}
use Rattle.bbm_place_map.proofs.map.PlaceMap.state_of.Goals as goal

pub returns-in-Some : goal.returns-in-Some
unfolding marks_at
returns-in-Some c = λ a at. ap (λ (o : Option Entry). state_from c.args.live (marks_of o)) (c.in-Some.ensures a at)

pub returns-in-None : goal.returns-in-None
unfolding marks_at
returns-in-None c = λ a at.
    c.unbroken.ensures ∙ ap (λ (o : Option Entry). state_from c.args.live (marks_of o)) (c.in-None.ensures a at)
