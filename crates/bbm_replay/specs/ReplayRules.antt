-- Gathered for the proofs here, and nothing that a reader must believe: what the crates below prove of the rules that
-- an event breaks and of the limit that it reaches, law by law, so that each proof takes it as one hypothesis. The
-- clause of `rules` promises it.
use Rattle.bbm_rules.specs.Prelude.{Heading}
use Rattle.bbm_replay_trees.specs.Guarding.{JudgesTables}
use Rattle.bbm_replay_trees.specs.Judging.{JudgesAttached, Unattached}
use Rattle.bbm_replay_trees.specs.RuleLaws.{LimitsByKind, RulesByKind, RulesOfWrites, RulesOnPages}

pub record Rules (heading : Heading) : Type 0 where
  pub by_kind : RulesByKind heading
  pub limits : LimitsByKind
  pub writes : RulesOfWrites heading
  pub on_pages : RulesOnPages heading
  pub judging : JudgesAttached heading
  pub unattached : Unattached heading
  pub tables : JudgesTables heading
