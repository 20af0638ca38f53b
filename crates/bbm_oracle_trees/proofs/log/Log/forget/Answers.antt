use Rattle.bbm_oracle_trees.proofs.log.Log.forget.Goals as goal

pub invariant_of-self : goal.invariant_of-self
invariant_of-self g c =
    rw (c.forget.ensures.heading, c.forget.ensures.trust, c.forget.ensures.kept)
    (rw (← c.self.view_is) at c.requires.emptied)
