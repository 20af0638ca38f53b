use Rattle.bbm_tree_index.proofs.Common.{get, Starting}
use Rattle.bbm_rules.proofs.Common.{subst, sym, ap, ◌∙◌, nat_eq, IfOk-weaker}
use Rattle.bbm_tree_index.specs.Index.{heading_of, node_in}
use Rattle.bbm_tree_index.proofs.Begins.{end_root, start_root, starts_below, well_root}
use Rattle.bbm_tree_index.proofs.index.TreeIndex.start.Goals as goal

pub start_root-requires : goal.start_root-requires
unfolding heading_of
start_root-requires c = end_root c.args.self.now c.args.at.now c.requires.may c.in-Root.kind c.in-Root.first c.in-Root.is
    c.in_ranges.ensures c.page_count.result c.page_count.ensures.value

pub returns-in-Root-clause-well : goal.returns-in-Root-clause-well
unfolding heading_of
returns-in-Root-clause-well c = IfOk-weaker c.start_root.result _ _ (λ table h. well_root c.args.self.now c.args.at.now c.requires.may
    c.in-Root.kind c.in-Root.first c.in-Root.is c.in_ranges.ensures c.page_count.result c.page_count.ensures.value (get nat_eq table) h) c.start_root.ensures

pub returns-in-Root-clause-start : goal.returns-in-Root-clause-start
unfolding heading_of
returns-in-Root-clause-start c = IfOk-weaker c.start_root.result _ _ (λ table h. start_root c.args.self.now c.args.at.now c.requires.may
    c.in-Root.kind c.in-Root.first c.in-Root.is c.page_count.result c.page_count.ensures.value (get nat_eq table) h) c.start_root.ensures

pub returns-in-Some-clause-start : goal.returns-in-Some-clause-start
returns-in-Some-clause-start c = let n = c.in-Some.ensures.node.0 in
    IfOk-weaker c.start_below.result _ _ (λ table h. subst (Starting (heading_of c.args.self.now) (get nat_eq table))
    (sym (starts_below c.args.self.now c.args.at.now c.requires.may c.in-Below.place c.in-Below.next n c.in-Below.is
    (ap (node_in c.args.self.now) (sym c.page.ensures) ∙ c.in-Some.ensures.node.1)))
    (h (heading_of c.args.self.now) n c.in-Some.ensures.node.2)) c.start_below.ensures.start
