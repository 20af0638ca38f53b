use Rattle.bbm_rules.proofs.Common.{◌≡◌, Some, None, ap, sym, ◌∙◌, events_of, page_of, node_of, value_of}
use Rattle.std.specs.Option.{option_copied}
use Rattle.bbm_oracle_patterns.specs.PlacePhases.{phase_at}
use Rattle.bbm_oracle_trees.specs.Past.{notes}
use Rattle.bbm_oracle_trees.proofs.Phasing.{phase_at_node, phase_nowhere, phase_stands}
use Rattle.bbm_oracle_trees.proofs.history.History.phase.Goals as goal

pub returns-in-Some-clause-among : goal.returns-in-Some-clause-among
returns-in-Some-clause-among g c =
    let found : node_of c.args.self.now.heading c.args.self.now.trust (notes c.args.self.now) (page_of c.args.place) ≡ Some c.in-Some.node.now =
    sym (rw c.page.ensures at c.in-Some.ensures) in
    let phase : c.phase_of.result ≡ phase_at c.args.self.now.heading c.args.self.now.trust c.in-Some.node.now.kind c.in-Some.node.now.level c.args.place
    (value_of (events_of (notes c.args.self.now)) c.args.place) c.args.pe (notes c.args.self.now) =
    rw (← c.self.view_is) c.phase_of.ensures in
    phase ∙ phase_at_node c.args.self.now.heading c.args.self.now.trust (notes c.args.self.now) c.args.place c.args.pe c.in-Some.node.now found

pub returns-in-Some-clause-stands : goal.returns-in-Some-clause-stands
returns-in-Some-clause-stands g c = λ heading h s.
    returns-in-Some-clause-among g c ∙ phase_stands c.args.self.now heading h s c.args.place c.args.pe

pub returns-in-None-clause-stands : goal.returns-in-None-clause-stands
returns-in-None-clause-stands g c = λ heading h s.
    let nowhere : node_of c.args.self.now.heading c.args.self.now.trust (notes c.args.self.now) (page_of c.args.place) ≡ None =
    rw c.page.ensures at (sym c.node_of.ensures ∙ ap option_copied c.in-None.is) in
    phase_nowhere c.args.self.now.heading c.args.self.now.trust (notes c.args.self.now) c.args.place c.args.pe nowhere
    ∙ phase_stands c.args.self.now heading h s c.args.place c.args.pe
