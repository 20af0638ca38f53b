use Rattle.bbm_rules.proofs.Common.{Some, ap, sym, ◌∙◌, ℕ}
use Rattle.bbm_tree_index.proofs.Numbered.{no_value, number_at, number_low}
use Rattle.bbm_tree_index.proofs.table.set.Goals as goal

pub put-requires : goal.put-requires
put-requires c =
    number_low c.args.roles.now c.args.page c.get.result
    (sym c.requires.number ∙ c.in-Some.is ∙ ap (λ (n : ℕ). Some n) (sym c.get.ensures.value))

pub push-requires-clause-absent : goal.push-requires-clause-absent
push-requires-clause-absent c = no_value c.args.roles.now.entries c.args.page (sym c.requires.number ∙ c.in-None.is)

pub returns-in-Some-clause-updates : goal.returns-in-Some-clause-updates
returns-in-Some-clause-updates c =
    c.put.ensures.updates c.args.page
    (number_at c.args.roles.now c.args.page c.get.result
    (sym c.requires.number ∙ c.in-Some.is ∙ ap (λ (n : ℕ). Some n) (sym c.get.ensures.value)))
