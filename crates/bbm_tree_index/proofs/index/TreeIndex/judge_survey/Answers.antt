use Rattle.bbm_tree_index.proofs.Common.{starts_of, value_at, Judges}
use Rattle.bbm_rules.proofs.Common.{subst, sym, arith, ◌≤◌}
use Rattle.bbm_tree_index.specs.Index.{fresh_in, role_in}
use Rattle.bbm_tree_index.proofs.Begins.{have_pages, survey_count, survey_told}
use Rattle.bbm_tree_index.proofs.index.TreeIndex.judge_survey.Goals as goal

pub judge_tables-requires-clause-pages : goal.judge_tables-requires-clause-pages
judge_tables-requires-clause-pages c = have_pages c.args.tables.now c.args.self.now c.args.map.now c.args.at.now c.requires.survey

pub judge_tables-requires-clause-low : goal.judge_tables-requires-clause-low
judge_tables-requires-clause-low c = subst (λ n. n ≤ 4) (sym (survey_count c.args.tables.now c.args.self.now c.args.map.now c.args.at.now
    c.requires.survey c.begin-kind.result.0 c.begin-kind.result.1 c.begin-kind.ensures.same c.begin-kind.ensures.some)) (omega arith)

pub returns : goal.returns
unfolding fresh_in role_in
returns c = subst (λ b. Judges (fresh_in c.args.self.now) (value_at c.args.map.now) (starts_of c.args.self.now c.args.at.now) b c.judge_tables.result)
    c.is_named.ensures
    ((rw c.roles.ensures at c.judge_tables.ensures) (starts_of c.args.self.now c.args.at.now)
    (survey_told c.args.tables.now c.args.self.now c.args.map.now c.args.at.now c.requires.survey
    c.begin-kind.result.0 c.begin-kind.result.1 c.begin-kind.ensures.same c.begin-kind.ensures.some c.requires.may))
