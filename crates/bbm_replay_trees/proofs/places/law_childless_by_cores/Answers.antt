use Rattle.bbm_replay_trees.specs.Told.{core_at}
use Rattle.bbm_replay_trees.proofs.PlaceLemmas.{childless_from, childless_to}
use Rattle.bbm_replay_trees.proofs.places.law_childless_by_cores.Goals as goal

pub returns : goal.returns
returns c heading h view n place value kept fit same same_core is holds =
    let b = c.below.ensures heading in (
      childless_from heading b h kept fit view.node (core_at view) same same_core n place value is holds,
      childless_to heading b h kept fit view.node (core_at view) same same_core n place value is holds,
    )
