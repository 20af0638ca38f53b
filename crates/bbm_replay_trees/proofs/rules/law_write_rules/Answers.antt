use Rattle.bbm_replay_trees.specs.Told.{core_at}
use Rattle.bbm_replay_trees.proofs.RuleLemmas.{held_rule, limbo_rule, lock_rule, null_rule, outside_rules}
use Rattle.bbm_replay_trees.proofs.RuleLemmas.{rewritten_rule, unroot_rule}
use Rattle.bbm_replay_trees.proofs.rules.law_write_rules.Goals as goal

pub returns : goal.returns
returns c heading = let events = (c.below.ensures heading).notes_keep_the_events in record {
  null = λ h view. null_rule heading h (events h) view.null;
  rewritten = λ h view. rewritten_rule heading h (events h) view.fresh view.value;
  lock = λ h view n pe place v same k. lock_rule heading h (events h) view.node same pe place v n k;
  held = λ h view n pe place v same same_core k.
      held_rule heading h (events h) view.node same pe place v (core_at view) same_core n k;
  limbo = λ h view n pe place v same same_value k.
      limbo_rule heading h (events h) view.node same pe place v view.value same_value n k;
  outside = λ h view pe place v same k. outside_rules heading h (events h) view.node same pe place v k;
  unroot = λ h. unroot_rule heading h (events h);
}
