use Rattle.bbm_replay_trees.proofs.RuleLemmas.{limbo_same}
use Rattle.bbm_replay_trees.proofs.places.law_limbo_by_values.Goals as goal

pub returns : goal.returns
returns c heading h view n same = limbo_same heading h ((c.below.ensures heading).notes_keep_the_events h) view.value
    same n
