use Rattle.bbm_tree_index.proofs.Common.{Fits, RoleFits, is_sound, StandsAt, spot_with, TreeIndex, Spot}
use Rattle.bbm_rules.proofs.Common.{◌≡◌, ℕ, Some, None, Option, IfSome, ap, sym, ◌∙◌, subst, Node}
use Rattle.bbm_tree_index.specs.Index.{heading_of, node_in, role_in}
use Rattle.bbm_tree_index.proofs.Cutting.{spot_node, spot_none}
use Rattle.bbm_tree_index.proofs.Sounds.{role_fits}
use Rattle.bbm_tree_index.proofs.index.TreeIndex.spot.Goals as goal

pub spot_of-requires : goal.spot_of-requires
unfolding heading_of
spot_of-requires c =
    subst (RoleFits c.args.self.now.header) (sym c.requires)
    (role_fits (role_in c.args.self.now) (heading_of c.args.self.now) (is_sound c.args.self.now).roles c.args.page)

pub returns-clause-spot : goal.returns-clause-spot
unfolding heading_of
returns-clause-spot c = c.spot_of.ensures ∙ ap (spot_with c.args.self.now.header) c.requires

spot_met : (old : TreeIndex) (page : ℕ) (o : Option Spot) → o ≡ spot_with (heading_of old) (role_in old page)
    → IfSome o Fits × IfSome o (λ s. (n : Node) × (node_in old page ≡ Some n) × StandsAt s n)
unfolding node_in
spot_met old page None e = (tt, tt)
spot_met old page (Some s) e = (
  role_fits (role_in old) (heading_of old) (is_sound old).roles page s (sym e),
  spot_node (role_in old) (heading_of old) page (role_in old page) s (sym e),
)

pub returns-clause-fits : goal.returns-clause-fits
returns-clause-fits c = (spot_met c.args.self.now c.args.page c.spot_of.result (returns-clause-spot c)).0

pub returns-clause-node : goal.returns-clause-node
returns-clause-node c = (spot_met c.args.self.now c.args.page c.spot_of.result (returns-clause-spot c)).1

pub returns-clause-none : goal.returns-clause-none
unfolding node_in
returns-clause-none c = λ e. spot_none (role_in c.args.self.now) (heading_of c.args.self.now) c.args.page
    (role_in c.args.self.now c.args.page) (sym (returns-clause-spot c) ∙ e)
