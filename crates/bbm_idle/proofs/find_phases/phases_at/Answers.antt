use Rattle.bbm_idle.proofs.Common.{Patterns, notes_of, phase_at, Kept, notes}
use Rattle.bbm_rules.proofs.Common.{◌≡◌, ℕ, List, Some, None, reverse, ap, sym, ◌∙◌, events_of, page_of, Heading, Event}
use Rattle.bbm_rules.proofs.Common.{Node, node_of, value_of}
use Rattle.bbm_idle.proofs.FindPhases.{at_node, phase_stands}
use Rattle.bbm_oracle_trees.proofs.Phasing.{phase_nowhere}
use Rattle.bbm_idle.proofs.find_phases.phases_at.Goals as goal

pub returns-in-Some : goal.returns-in-Some
returns-in-Some c = λ heading h s p.
    let past = c.args.history.now in
    let found : node_of past.heading past.trust (notes past) (page_of c.args.place) ≡ Some c.in-Some.node.now =
    sym (rw c.page.ensures at c.in-Some.ensures) in
    c.phases_in.ensures p
    ∙ ap (λ (g : Heading). phase_at g Patterns c.node.inside.kind c.node.inside.level c.args.place c.value_of-value.result p
    (notes_of (reverse c.log.result.now))) c.header.ensures
    ∙ ap (λ (ks : List Kept). phase_at past.heading Patterns c.node.inside.kind c.node.inside.level c.args.place c.value_of-value.result p
    (notes_of ks)) c.log.ensures
    ∙ ap (λ (v : ℕ). phase_at past.heading Patterns c.node.inside.kind c.node.inside.level c.args.place v p (notes past))
    (c.value_of-value.ensures ∙ ap (λ (es : List Event). value_of es c.args.place) c.events.ensures)
    ∙ ap (λ (n : Node). phase_at past.heading Patterns n.kind n.level c.args.place (value_of (events_of (notes past)) c.args.place) p (notes past))
    c.node.view_is
    ∙ at_node past.heading past.trust (notes past) c.args.place p c.in-Some.node.now s.trust_is found
    ∙ phase_stands past heading h s c.args.place p

pub returns-in-None : goal.returns-in-None
returns-in-None c = λ heading h s p.
    let past = c.args.history.now in
    let nowhere : node_of past.heading past.trust (notes past) (page_of c.args.place) ≡ None =
    sym (rw c.page.ensures at c.in-None.ensures) in
    phase_nowhere past.heading past.trust (notes past) c.args.place p nowhere ∙ phase_stands past heading h s c.args.place p
