use Rattle.bbm_replay_trees.specs.Told.{core_at}
use Rattle.bbm_replay_trees.proofs.CoreLemmas.{cores_dsb, cores_step}
use Rattle.bbm_replay_trees.proofs.cores.law_cores.Goals as goal

pub returns : goal.returns
returns c heading = let b = c.below.ensures heading in record {
  step = λ h old new. cores_step heading b h old.node new.node new.value (core_at old) (core_at new);
  dsb = λ h old new. cores_dsb heading b h new.node (core_at old) (core_at new);
}
