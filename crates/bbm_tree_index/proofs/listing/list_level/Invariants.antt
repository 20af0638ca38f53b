use Rattle.bbm_tree_index.specs.Listing.{Adds}
use Rattle.bbm_tree_index.proofs.Listed.{FirstListed}
use Rattle.bbm_tree_index.proofs.listing.list_level.Given as goal

abbrev pub invariant-loop-index : goal.invariant-loop-index
invariant-loop-index l = Adds (FirstListed l.header l.level l.index) l.initial.pages.items l.pages.items
