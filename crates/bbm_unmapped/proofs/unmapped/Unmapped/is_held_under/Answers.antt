use Rattle.bbm_unmapped.proofs.Common.{in_outputs, pages_of}
use Rattle.bbm_page_map.proofs.Numbering.{some_number}
use Rattle.bbm_unmapped.specs.Unmapped.{may_map, pages_in}
use Rattle.bbm_rules.proofs.Common.{◌∙◌, List, ap, false, option_map_or, slice_get, sym, ℕ}
use Rattle.bbm_tree_index.specs.Index as tree
use Rattle.bbm_unmapped.proofs.HeldLeaves.{from_under, stood, to_under}
use Rattle.bbm_unmapped.proofs.unmapped.Unmapped.is_held_under.Goals as goal

pub holds_over-requires : goal.holds_over-requires
unfolding pages_in
holds_over-requires c = some_number (pages_of c.args.map.now) c.at-table.result.0 c.args.number
    (ap (λ (ps : List ℕ). slice_get ps c.args.number) (c.requires.shares ∙ sym c.requires.pages) ∙ c.at-table.ensures.at)

pub returns-in-Some : goal.returns-in-Some
unfolding pages_in may_map
returns-in-Some c = let table = c.at-table.result.0 in let read = c.in-Some.read in
    let n = stood c.args.index.now (pages_in c.args.self.now) (tree.pages_in c.args.index.now) c.args.number table
    c.standing-read.result.0
    c.standing-read.result.1 read c.requires.pages c.at-table.ensures.at c.standing-read.ensures.at
    c.standing-read.ensures.stands c.in-Some.is in
    let looked = ap (λ o. option_map_or (λ leaves. in_outputs leaves.bounds c.args.page) o false)
    c.at-table.ensures.value
    ∙ sym c.has.ensures ∙ c.if-not-has.false in (
      λ e. to_under c.args.self.now c.args.index.now c.args.map.now c.args.page c.args.number table
          c.at-table.ensures.at n.0 n.1 read n.2 n.3
          looked (c.holds_over.ensures.0 e),
      λ h. c.holds_over.ensures.1
          (from_under c.args.self.now c.args.index.now c.args.map.now c.args.page c.args.number table
          c.at-table.ensures.at n.0 n.1 read n.2 n.3 h),
    )
