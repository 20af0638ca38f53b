use Rattle.bbm_tree_index.proofs.Common.{Surveyed, fresh_of, value_at}
use Rattle.bbm_rules.proofs.Common.{suc, sym, subst, arith, on_ok_weaker, slice_get_read}
use Rattle.bbm_tree_index.proofs.Starts.{more_tables}
use Rattle.bbm_tree_index.proofs.survey.push_level.Goals as goal

pub expand-requires : goal.expand-requires
expand-requires c = c.requires.tables.1.wells c.args.last c.index.result.now
    (slice_get_read _ (suc c.args.last) c.args.last _ (sym c.requires.count) (omega arith) c.index.ensures)

pub returns-clause-tables : goal.returns-clause-tables
returns-clause-tables c = on_ok_weaker c.push_table.result (λ e first s.
    subst (Surveyed c.args.header.now (fresh_of c.args.roles.now) (value_at c.args.map.now) first) (sym e)
    (more_tables c.args.header.now (fresh_of c.args.roles.now) (value_at c.args.map.now) first c.args.tables.now.items c.index.result.now
    c.in_ok-next.next c.args.last c.requires.count (slice_get_read _ (suc c.args.last) c.args.last _ (sym c.requires.count) (omega arith) c.index.ensures) s
    c.in_ok-next.ensures.well c.in_ok-next.ensures.level)) c.push_table.ensures
