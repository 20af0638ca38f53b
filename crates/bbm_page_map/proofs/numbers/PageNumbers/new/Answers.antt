use Rattle.std.proofs.Common.{arith, sym}
use Rattle.bbm_page_map.proofs.Finding.{none_reached}
use Rattle.bbm_page_map.proofs.Leading.{none_leads}
use Rattle.bbm_page_map.proofs.numbers.PageNumbers.new.Goals as goal

pub invariant_of-result : goal.invariant_of-result
invariant_of-result c =
    let slots = c.new-2.result.items in
    rw c.new.ensures.items (record {
      leads = none_leads slots (omega (arith, c.new-2.ensures.len));
      few = omega arith;
      found = tt;
      node = sym (none_reached slots (omega (arith, c.new-2.ensures.len)) 3 0);
    })
