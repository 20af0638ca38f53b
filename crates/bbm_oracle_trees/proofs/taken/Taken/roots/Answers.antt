use Rattle.bbm_rules.proofs.Common.{reverse}
use Rattle.bbm_oracle_trees.proofs.Fitting.{found_fit}
use Rattle.bbm_oracle_trees.proofs.taken.Taken.roots.Goals as goal

pub returns-clause-fit : goal.returns-clause-fit
returns-clause-fit g c =
    let found = rw c.deref.ensures.value at c.roots_of.ensures in
    rw (← c.self.view_is) (found_fit c.self.inside.header (λ v. v.items) (reverse c.self.inside.events.items) c.roots_of.result c.self.invariant.1 found)
