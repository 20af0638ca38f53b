use Rattle.bbm_rules.proofs.Common.{IfOk-weaker, Contains, length, subst}
use Rattle.std.specs.Prelude.{◌↔◌}
use Rattle.bbm_tree_index.specs.Index.{heading_of}
use Rattle.bbm_tree_index.specs.Listing.{ListedAt}
use Rattle.bbm_tree_index.specs.declared.standing.AttachedPage.{AttachedPage}
use Rattle.bbm_tree_index.proofs.Listed.{lists}
use Rattle.bbm_tree_index.proofs.Reaching.{ready}
use Rattle.bbm_tree_index.proofs.index.TreeIndex.attached_pages.Goals as goal

pub returns : goal.returns
unfolding heading_of
returns c = IfOk-weaker c.list_levels.result _ _
    (λ pages all at prepared named.
    lists (ready prepared named) pages.items
    (subst (λ ts. (a : AttachedPage) → Contains pages.items a ↔ ListedAt c.args.self.now.header ts (length ts) a) c.deref.ensures.value all))
    c.list_levels.ensures
