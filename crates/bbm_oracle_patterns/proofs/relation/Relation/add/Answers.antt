use Rattle.bbm_rules.proofs.Common.{ℕ, ap, ◌∙◌, ◌&&◌, ◌||◌, nat_eq, arith}
use Rattle.bbm_regimes.specs.PeMask.{pe_in}
use Rattle.bbm_oracle_patterns.specs.Relation.{related, row_has}
use Rattle.bbm_oracle_patterns.proofs.Rows.{rows_add}
use Rattle.bbm_oracle_patterns.proofs.relation.Relation.add.Goals as goal

pub returns : goal.returns
unfolding related
returns c = λ q p.
    rows_add c.args.self.now.rows c.get-index.result c.or.result _ (pe_in c.args.pes) (omega arith) c.or.ensures q p
    ∙ ap (λ (i : ℕ). row_has c.args.self.now.rows q p || (nat_eq i q && pe_in c.args.pes p)) c.get-index.ensures.value
