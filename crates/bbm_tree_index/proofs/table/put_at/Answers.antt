use Rattle.bbm_tree_index.proofs.Common.{get}
use Rattle.bbm_rules.proofs.Common.{Bool, Some, ap, nat_eq, ◌∙◌, if◌then◌else◌}
use Rattle.std.proofs.lemmas.Cmp.{nat_eq_equiv}
use Rattle.bbm_tree_index.proofs.Numbered.{same_by_keys}
use Rattle.bbm_tree_index.proofs.table.put_at.Goals as goal

pub returns-clause-roles : goal.returns-clause-roles
returns-clause-roles c = λ p.
    c.put.ensures.updates c.args.page c.requires p
    ∙ ap (λ (b : Bool). if b then Some c.args.role else get nat_eq c.args.roles.now p)
    (nat_eq_equiv.symm c.args.page p)

pub returns-clause-same : goal.returns-clause-same
returns-clause-same c = same_by_keys c.args.roles.now c.put.new.self c.put.ensures.keys
