use Rattle.bbm_rules.proofs.Common.{sym, ◌∙◌, ap}
use Rattle.bbm_rules.specs.Held.{emptied}
use Rattle.bbm_oracle_trees.specs.Past.{Past, notes}
use Rattle.bbm_oracle_trees.proofs.log.Log.phase_in.Goals as goal

pub phase_in-requires : goal.phase_in-requires
phase_in-requires g c =
    c.is_emptied-emptied.ensures
    ∙ ap (λ (past : Past). emptied past.heading past.trust c.args.kind c.args.level c.args.place (notes past))
    (sym c.self.view_is)
