use Rattle.bbm_rules.proofs.Common.{◌≡◌, ◌-◌}
use Rattle.bbm_tree_index.proofs.Common.{SameKeys, roles_of}
use Rattle.bbm_place_map.specs.Map.{lost_pages, pages_of}
use Rattle.bbm_tree_index.specs.Leaving.{Departs, Goes, Start}
use Rattle.bbm_tree_index.proofs.Departures.{Emptied}
use Rattle.bbm_tree_index.proofs.leaving.+take_out.Given as goal

abbrev pub decreases-take_out : goal.decreases-take_out
decreases-take_out l = 4 - l.level

abbrev pub invariant-loop-index : goal.invariant-loop-index
invariant-loop-index l = record {
  same : SameKeys l.initial.roles l.roles;
  pages : pages_of l.map ≡ pages_of l.initial.map;
  lost : lost_pages l.map ≡ lost_pages l.initial.map;
  emptied : (s : Start) → Departs s (roles_of l.initial.roles) l.initial.map → Goes s l.page l.kind l.level
      → Emptied s l.page (roles_of l.initial.roles) (roles_of l.roles) l.map l.index;
}
