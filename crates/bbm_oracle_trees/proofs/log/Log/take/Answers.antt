use Rattle.bbm_rules.proofs.Common.{refl}
use Rattle.bbm_oracle_trees.proofs.log.Log.take.Goals as goal

pub emptied_after-requires : goal.emptied_after-requires
emptied_after-requires g c = record {
  newest = c.args.kept;
  older = c.self.inside.taken.kept;
  split = c.in_ok-evidence.ensures.taken;
  is = refl;
  before = rw (c.deref.ensures.value, c.take.ensures.heading, c.take.ensures.trust) c.self.invariant;
}

pub invariant_of-self-in-Err : goal.invariant_of-self-in-Err
invariant_of-self-in-Err g c =
    rw (
      c.forget.ensures.heading,
      c.forget.ensures.trust,
      c.forget.ensures.kept,
      c.take.ensures.heading,
      c.take.ensures.trust,
      c.in_ok-evidence.ensures.taken,
    ) c.self.invariant
