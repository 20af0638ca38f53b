use Rattle.std.proofs.Common.{rules}
use Rattle.bbm_place_map.proofs.Common.{arith}
use Rattle.bbm_place_map.proofs.Listing.{listed_none}
use Rattle.bbm_place_map.proofs.broken.BrokenPlaces.new.Goals as goal

pub invariant_of-result : goal.invariant_of-result
invariant_of-result c = (
  search rules,
  listed_none c.no_work.result c.new-2.result.cells.items c.new-2.result.list.items 1 c.no_work.ensures.pes (omega arith)
      c.new-2.ensures.list,
  search rules,
)
