use Rattle.bbm_rules.proofs.Common.{◌≡◌, ◌+◌, ℕ, [], length, arith, refl, slice_get_read, subst}
use Rattle.bbm_tree_index.specs.Listing.{Adds, ListedAt, ListedIn}
use Rattle.bbm_tree_index.proofs.Listed.{adds_more, levels_more, only_added}
use Rattle.bbm_tree_index.proofs.listing.list_levels.Goals as goal

pub loop-index-preserved : goal.loop-index-preserved
loop-index-preserved c = let heading = c.args.header.now in let tables = c.args.tables.now in let index = c.loop-index.index in
    let table = c.index-tables-index.result in
    adds_more (ListedAt heading tables index) (ListedIn heading table) (ListedAt heading tables (index + 1))
    [] c.loop-index.pages.items c.list_level.new.pages.items
    (levels_more heading tables index table (slice_get_read _ _ _ _ refl c.loop-index-test.true c.index-tables-index.is))
    c.loop-index.invariant c.in_ok-list_level.ensures

pub returns : goal.returns
returns c = let heading = c.args.header.now in let tables = c.args.tables.now in
    let end : c.loop-index.index ≡ length tables = omega (arith, c.loop-index-test.false, c.loop-index.auto.index-end) in
    only_added (ListedAt heading tables (length tables)) c.loop-index.pages.items
    (subst (λ (n : ℕ). Adds (ListedAt heading tables n) [] c.loop-index.pages.items) end c.loop-index.invariant)
