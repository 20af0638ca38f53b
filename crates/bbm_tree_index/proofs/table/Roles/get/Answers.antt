use Rattle.bbm_rules.proofs.Common.{Some, ap, sym, ◌∙◌, ℕ}
use Rattle.bbm_tree_index.proofs.Numbered.{got}
use Rattle.bbm_tree_index.proofs.table.Roles.get.Goals as goal

pub returns : goal.returns
returns c =
    rw (← c.self.view_is)
    (sym
    (got c.self.inside.column.now c.args.page c.get.result c.at.result.0 c.at.result.1.now
    (sym c.number_of.ensures.number ∙ c.in_ok-number.was ∙ ap (λ (n : ℕ). Some n) (sym c.get.ensures.value))
    c.at.ensures.at c.at.ensures.value))
