use Rattle.bbm_tree_index.proofs.Common.{limbo_by, value_at}
use Rattle.bbm_rules.proofs.Common.{false, sym, ap, ◌∙◌, option_map_or}
use Rattle.bbm_tree_index.specs.Index.{node_in, role_in}
use Rattle.bbm_tree_index.proofs.Limbo.{limbo_hangs}
use Rattle.bbm_tree_index.proofs.index.TreeIndex.in_limbo.Goals as goal

pub returns-in-Hangs : goal.returns-in-Hangs
unfolding role_in
returns-in-Hangs c = let h = c.in-Hangs in c.is_cut.ensures
    ∙ limbo_hangs c.args.self.now c.args.map.now c.page.result h.parent h.level h.base h.first h.kind (sym c.role-role.ensures ∙ h.is)
    ∙ ap (λ p. option_map_or (limbo_by (value_at c.args.map.now)) (node_in c.args.self.now p) false) c.page.ensures
