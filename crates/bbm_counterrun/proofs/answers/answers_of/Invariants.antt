use Rattle.bbm_counterrun.proofs.Common.{IsAnswers, IsPending}
use Rattle.bbm_rules.proofs.Common.{take, reverse}
use Rattle.bbm_counterrun.proofs.answers.answers_of.Given as goal

abbrev pub invariant-loop-n : goal.invariant-loop-n
invariant-loop-n l = record {
  pending : IsPending l.header (reverse (take l.n l.events)) l.pendings.items;
  answers : IsAnswers l.header (reverse (take l.n l.events)) l.answers.items;
}
