use Rattle.bbm_tree_index.proofs.Common.{Leaving}
use Rattle.bbm_rules.proofs.Common.{◌∙◌, ap, sym}
use Rattle.bbm_tree_index.specs.Leaving.{starts_at}
use Rattle.bbm_tree_index.proofs.leaving.starts.Goals as goal

pub returns-in-Root : goal.returns-in-Root
returns-in-Root c =
    c.is_of_root.ensures c.args.map.now ∙ ap (λ (l : Leaving). starts_at c.args.map.now l c.args.role.now) (sym c.in-Root.is)
