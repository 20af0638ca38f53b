use Rattle.bbm_rules.proofs.Common.{arith, ◌≡◌, ◌+◌, Some}
use Rattle.bbm_tree_index.specs.Listing.{ListedIn, listed_by}
use Rattle.bbm_tree_index.proofs.Listed.{FirstListed, adds_more, adds_same, all_first, first_more}
use Rattle.bbm_tree_index.proofs.listing.list_level.Goals as goal

pub loop-index-preserved : goal.loop-index-preserved
loop-index-preserved c = let heading = c.args.header.now in let table = c.args.level.now in let index = c.loop-index.index in
    let page = c.entry_at-page.result.0 in let mark = c.entry_at-page.result.1 in
    adds_more (FirstListed heading table index) (λ a. listed_by heading page mark.role ≡ Some a) (FirstListed heading table (index + 1))
    c.args.pages.now.items c.loop-index.pages.items c.list_page.new.pages.items
    (first_more heading table index page mark c.entry_at-page.ensures.at c.entry_at-page.ensures.mark)
    c.loop-index.invariant c.in_ok-list_page.ensures

pub returns : goal.returns
returns c = let heading = c.args.header.now in let table = c.args.level.now in let index = c.loop-index.index in
    adds_same (FirstListed heading table index) (ListedIn heading table) c.args.pages.now.items c.loop-index.pages.items
    (all_first heading table index (omega (arith, c.loop-index-test.false, c.len-index-end.ensures.len))) c.loop-index.invariant
