use Rattle.bbm_place_map.proofs.Common.{None, cond-false, entry_in, entry_of_cell, in_page, sym}
use Rattle.bbm_place_map.proofs.Pages.{none_inside, one_more}
use Rattle.bbm_place_map.proofs.Positions.{still_more, still_same}
use Rattle.bbm_place_map.proofs.entries.Entries.clear_page.Goals as goal

pub loop-i-init : goal.loop-i-init
loop-i-init c = record {
  sound = still_same c.args.self.now;
  entries = λ i. sym (cond-false (in_page c.args.start 0 i) None (entry_of_cell c.args.self.now i) (none_inside c.args.start i));
}

pub loop-i-preserved : goal.loop-i-preserved
loop-i-preserved c = record {
  sound = still_more c.loop-i.invariant.sound c.clear.ensures.sound;
  entries = one_more c.args.start c.loop-i.i None (entry_in c.args.self.now.cells.items c.args.self.now.list.items)
      (entry_in c.loop-i.self.cells.items c.loop-i.self.list.items) (entry_in c.clear.new.self.cells.items c.clear.new.self.list.items)
      c.loop-i.invariant.entries c.clear.ensures.entries;
}
