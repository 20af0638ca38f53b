use Rattle.bbm_rules.proofs.Common.{ℕ, ap, ◌∙◌, ◌&&◌, not, nat_eq, arith}
use Rattle.bbm_oracle_patterns.specs.Relation.{related, row_has}
use Rattle.bbm_oracle_patterns.proofs.Rows.{row_is, rows_empty}
use Rattle.bbm_oracle_patterns.proofs.relation.Relation.take.Goals as goal

pub returns-clause-row : goal.returns-clause-row
unfolding related
returns-clause-row c = λ p. row_is c.args.self.now.rows c.get-index.result c.args.pe p _
    (omega arith) c.get-index.ensures.value

pub returns-clause-left : goal.returns-clause-left
unfolding related
returns-clause-left c = λ q p.
    rows_empty c.args.self.now.rows c.get-index.result c.none.result (omega arith) c.none.ensures q p
    ∙ ap (λ (i : ℕ). row_has c.args.self.now.rows q p && not (nat_eq i q)) c.get-index.ensures.value
