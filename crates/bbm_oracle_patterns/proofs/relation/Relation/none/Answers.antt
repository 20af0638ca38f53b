use Rattle.bbm_oracle_patterns.specs.Relation.{related}
use Rattle.bbm_oracle_patterns.proofs.Rows.{rows_none}
use Rattle.bbm_oracle_patterns.proofs.relation.Relation.none.Goals as goal

pub returns : goal.returns
unfolding related
returns c = rows_none 128 c.none.result c.none.ensures
