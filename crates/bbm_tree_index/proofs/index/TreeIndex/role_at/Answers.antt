use Rattle.bbm_tree_index.proofs.Common.{Untracked}
use Rattle.bbm_rules.proofs.Common.{ℕ, Some, ap, sym, ◌∙◌, page_of}
use Rattle.bbm_tree_index.specs.Index.{pages_in, role_in}
use Rattle.bbm_tree_index.proofs.Numbered.{number_low, value_of}
use Rattle.bbm_tree_index.proofs.index.TreeIndex.role_at.Goals as goal

pub at-requires : goal.at-requires
unfolding pages_in
at-requires c =
    number_low c.args.self.now.roles (page_of c.args.position.now.place) c.get.result
    (c.requires ∙ ap (λ (n : ℕ). Some n) (sym c.get.ensures.value))

pub returns : goal.returns
unfolding pages_in role_in
returns c =
    sym
    (value_of c.args.self.now.roles Untracked (page_of c.args.position.now.place) c.get.result c.at.result.0
    c.at.result.1.now (c.requires ∙ ap (λ (n : ℕ). Some n) (sym c.get.ensures.value)) c.at.ensures.at c.at.ensures.value)
