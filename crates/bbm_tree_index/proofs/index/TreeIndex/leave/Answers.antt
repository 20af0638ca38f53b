use Rattle.bbm_tree_index.proofs.Common.{leaves, node_by, roles_of, stays}
use Rattle.bbm_rules.proofs.Common.{ℕ, Bool, refl}
use Rattle.bbm_tree_index.specs.Index.{heading_of, known_in, node_in, pages_in, role_in}
use Rattle.bbm_tree_index.proofs.Departures.{below_leaves}
use Rattle.bbm_tree_index.proofs.Growing.{pages_same}
use Rattle.bbm_tree_index.proofs.Left.{trees_left}
use Rattle.bbm_tree_index.proofs.Sweeping.{sound_swept}
use Rattle.bbm_tree_index.proofs.index.TreeIndex.leave.Goals as goal

pub take_all-requires-clause-found : goal.take_all-requires-clause-found
unfolding heading_of node_in role_in
take_all-requires-clause-found c = c.requires.found

abbrev leaver : goal.After-take_all → ℕ → Bool
leaver c p = leaves (stays c.args.map.now c.args.leaving.now) (node_by (roles_of c.args.self.now.roles) c.args.self.now.header p)

pub invariant_of-self-clause-sound : goal.invariant_of-self-clause-sound
invariant_of-self-clause-sound c =
    let self = c.args.self.now in
    sound_swept (roles_of self.roles) (roles_of c.take_all.new.roles) self.header self.sound (leaver c) c.take_all.ensures.roles.roles
    (below_leaves c.args.map.now (roles_of self.roles) self.header self.sound c.args.leaving.now)

pub invariant_of-self-clause-paged : goal.invariant_of-self-clause-paged
invariant_of-self-clause-paged c = pages_same c.take_all.ensures.roles.same c.args.self.now.paged

pub returns : goal.returns
unfolding heading_of known_in node_in pages_in role_in
returns c =
    let old = c.args.self.now in let same = c.take_all.ensures.roles.same in record {
      trees = trees_left old c.args.map.now c.args.leaving.now _ refl c.take_all.ensures.roles.roles;
      tracked = record { known = same.known; pages = same.keys; heading = refl };
      map = c.take_all.ensures.map;
    }
