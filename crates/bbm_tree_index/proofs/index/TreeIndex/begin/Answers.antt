use Rattle.bbm_rules.proofs.Common.{ap, sym, ◌∙◌}
use Rattle.bbm_tree_index.specs.Index.{heading_of, node_in}
use Rattle.bbm_tree_index.proofs.Begins.{same_root, some_below, some_root}
use Rattle.bbm_tree_index.proofs.index.TreeIndex.begin.Goals as goal

pub returns-in-Root-clause-same : goal.returns-in-Root-clause-same
unfolding heading_of
returns-in-Root-clause-same c = λ s h.
    let r = same_root c.args.self.now c.args.at.now c.requires.may c.in-Root.kind c.in-Root.first c.in-Root.is s h in
    (r.0, r.1 ∙ sym c.start_level.ensures.value)

pub returns-in-Root-clause-some : goal.returns-in-Root-clause-some
unfolding heading_of
returns-in-Root-clause-some c = some_root c.args.self.now c.args.at.now c.requires.may c.in-Root.kind c.in-Root.first c.in-Root.is c.in_ranges.ensures

pub returns-in-Some-clause-some : goal.returns-in-Some-clause-some
returns-in-Some-clause-some c = some_below c.args.self.now c.args.at.now c.requires.may c.in-Below.place c.in-Below.next
    c.in-Some.ensures.node.0 c.in-Below.is (ap (node_in c.args.self.now) (sym c.page.ensures) ∙ c.in-Some.ensures.node.1)
