use Rattle.bbm_replay_trees.specs.Told.{core_at}
use Rattle.bbm_replay_trees.proofs.HangLemmas.{above, down, own, up}
use Rattle.bbm_replay_trees.proofs.nodes.law_neighbours.Goals as goal

pub returns : goal.returns
returns c heading = let b = c.below.ensures heading in record {
  own = λ h view p m same is. own heading b h view.node same p m is;
  down = λ h view n place next kept same same_core is table.
      down heading b h view.node same (core_at view) same_core kept n place next is table;
  up = λ h view p m a rest kept fit same same_core is above_is.
      up heading b h view.node same (core_at view) same_core kept fit p m a rest is above_is;
  above = λ h view p m a kept same same_core is there.
      above heading b h view.node same (core_at view) same_core kept p m a is there;
}
