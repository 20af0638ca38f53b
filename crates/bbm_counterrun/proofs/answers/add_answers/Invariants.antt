use Rattle.bbm_counterrun.proofs.Common.{answer_at, is_answered}
use Rattle.bbm_rules.proofs.Common.{◌≡◌, ◌++◌, map, filter, drop}
use Rattle.bbm_counterrun.proofs.answers.add_answers.Given as goal

abbrev pub invariant-loop-pending : goal.invariant-loop-pending
invariant-loop-pending l = record {
  rest : l.answers.items ++ map (answer_at l.before) (filter (is_answered l.pe l.dsb) (drop l.pending-index l.pendings))
      ≡ l.fn.answers.items ++ map (answer_at l.before) (filter (is_answered l.pe l.dsb) l.pendings);
}
