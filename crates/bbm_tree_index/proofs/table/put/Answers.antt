use Rattle.bbm_rules.proofs.Common.{Some, ap, sym, ◌∙◌, ℕ}
use Rattle.bbm_tree_index.proofs.Numbered.{number_at}
use Rattle.bbm_tree_index.proofs.table.put.Goals as goal

pub put_at-requires : goal.put_at-requires
put_at-requires c =
    number_at c.args.roles.now c.args.page c.get.result
    (sym c.number_of.ensures.number ∙ c.in-Some.is ∙ ap (λ (n : ℕ). Some n) (sym c.get.ensures.value))
