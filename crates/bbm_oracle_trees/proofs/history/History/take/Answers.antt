use Rattle.bbm_rules.proofs.Common.{◌∙◌, ap}
use Rattle.bbm_oracle_patterns.specs.Kept.{notes_of}
use Rattle.bbm_oracle_trees.specs.Past.{Past}
use Rattle.bbm_oracle_trees.proofs.Noting.{stands_more}
use Rattle.bbm_oracle_trees.proofs.history.History.take.Goals as goal

pub bring-requires : goal.bring-requires
bring-requires g c = record {
  newest = c.in_ok-kept.kept;
  older = c.self.inside.log.kept;
  split = c.in_ok-before.ensures.taken;
  is = c.in_ok-kept.ensures.event;
  before = rw (c.take.ensures.heading, c.take.ensures.trust) c.self.invariant;
}

pub invariant_of-self-in-Err : goal.invariant_of-self-in-Err
invariant_of-self-in-Err g c =
    rw (
      c.in-Err.ensures.unchanged,
      c.forget.ensures.heading,
      c.forget.ensures.trust,
      c.forget.ensures.kept,
      c.take.ensures.heading,
      c.take.ensures.trust,
      c.in_ok-before.ensures.taken,
    ) c.self.invariant

pub returns-in-Ok-clause-taken : goal.returns-in-Ok-clause-taken
returns-in-Ok-clause-taken g c =
    rw (← c.self.view_is)
    (ap notes_of c.in_ok-before.ensures.taken ∙ c.in_ok-kept.ensures.note)

pub returns-in-Ok-clause-stands : goal.returns-in-Ok-clause-stands
returns-in-Ok-clause-stands g c =
    stands_more c.args.self.now c.take.new.self c.args.event
    (c.take.ensures.heading ∙ ap (λ (past : Past). past.heading) c.self.view_is)
    (c.take.ensures.trust ∙ ap (λ (past : Past). past.trust) c.self.view_is)
    (returns-in-Ok-clause-taken g c)
