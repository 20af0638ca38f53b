use Rattle.bbm_rules.proofs.Common.{[]}
use Rattle.bbm_tree_index.specs.Listing.{Adds, ListedAt}
use Rattle.bbm_tree_index.proofs.listing.list_levels.Given as goal

abbrev pub invariant-loop-index : goal.invariant-loop-index
invariant-loop-index l = Adds (ListedAt l.header l.tables l.index) [] l.pages.items
