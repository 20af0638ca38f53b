use Rattle.bbm_replay_trees.proofs.HangLemmas.{start_of}
use Rattle.bbm_replay_trees.proofs.starts.law_starts.Goals as goal

pub returns : goal.returns
returns c heading h view p m same is none =
    start_of heading (c.below.ensures heading) h (λ r has. c.law_root.ensures.found h r (c.law_root.ensures.sound h r has))
    view.node same p m is none
