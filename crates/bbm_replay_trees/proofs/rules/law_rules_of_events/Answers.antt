use Rattle.bbm_replay_trees.proofs.RuleLemmas.{few}
use Rattle.bbm_replay_trees.proofs.rules.law_rules_of_events.Goals as goal

pub returns : goal.returns
returns c = few
