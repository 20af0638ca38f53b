use Rattle.std.specs.List.{IsDistinct}
use Rattle.bbm_page_map.proofs.column.PageColumn.new.Goals as goal

pub invariant_of-result : goal.invariant_of-result
unfolding IsDistinct
invariant_of-result g c = rw c.new.ensures.items tt
