use Rattle.bbm_idle.proofs.Common.{Patterns, StandsByPatterns, is_kept, is_kept_by}
use Rattle.bbm_rules.proofs.Common.{ℕ, List, ◌∷◌, ap, ◌∙◌, every}
use Rattle.bbm_rules.specs.Phases.{phase_of}
use Rattle.bbm_idle.specs.declared.find_phases.PlacePhases.{PlacePhases}
use Rattle.bbm_idle.proofs.find_phases.take_keeping.Goals as goal

pub returns-clause-keeps : goal.returns-clause-keeps
returns-clause-keeps c = λ h s are.
    let heading = c.args.header.now in
    let new = phase_of heading Patterns (c.args.event.now ∷ h) in
    let stands : StandsByPatterns c.take.new.self heading (c.args.event.now ∷ h) = record {
      trust_is = c.in_ok-take.ensures.trust ∙ s.trust_is;
      kept = c.in_ok-take.ensures.stands heading h s.kept;
    } in
    c.have_still.ensures (c.args.event.now ∷ h) stands
    ∙ ap (λ (os : List PlacePhases). every (is_kept_by heading.pes new) os) c.deref.ensures.value
    ∙ c.in_ok-old.ensures heading h s heading.pes new
    ∙ ap (λ (ps : List ℕ). every (is_kept heading.pes new (phase_of heading Patterns h)) ps) are
