use Rattle.bbm_tree_index.proofs.Common.{Null}
use Rattle.bbm_rules.proofs.Common.{◌==◌, refl, ◌∙◌}
use Rattle.bbm_tree_index.specs.Index.{fresh_in, heading_of, null_in, role_in}
use Rattle.bbm_tree_index.proofs.Growing.{pages_same}
use Rattle.bbm_tree_index.proofs.Indexes.{false_there, fresh_out, fresh_put, node_kept, null_put, sound_put, trees_put}
use Rattle.bbm_tree_index.proofs.Indexes.{true_there}
use Rattle.bbm_tree_index.proofs.Agreeing.{agrees_same}
use Rattle.bbm_tree_index.proofs.index.TreeIndex.nullify.Goals as goal

pub invariant_of-self-clause-sound : goal.invariant_of-self-clause-sound
invariant_of-self-clause-sound c = sound_put c.args.self.now c.put.new.roles c.args.page Null c.put.ensures.roles
    (fresh_out c.args.self.now c.args.page c.requires.fresh) refl

pub invariant_of-self-clause-paged : goal.invariant_of-self-clause-paged
invariant_of-self-clause-paged c = pages_same c.put.ensures.same c.args.self.now.paged

pub returns-clause-null : goal.returns-clause-null
unfolding heading_of role_in
returns-clause-null c =
    let old = c.args.self.now in
    let page = c.args.page in
    let put = c.put.ensures.roles in
    record {
      node = node_kept old _ refl (trees_put old c.put.new.roles page Null put (fresh_out old page c.requires.fresh) refl);
      fresh = λ p. fresh_put old _ page Null put p ∙ false_there (p == page) (fresh_in old p);
      null = λ p. null_put old _ page Null put p ∙ true_there (p == page) (null_in old p);
    }

pub returns-clause-agrees : goal.returns-clause-agrees
unfolding heading_of role_in
returns-clause-agrees c = λ map g. agrees_same c.args.self.now _ map map
    (node_kept c.args.self.now _ refl (trees_put c.args.self.now c.put.new.roles c.args.page Null c.put.ensures.roles
    (fresh_out c.args.self.now c.args.page c.requires.fresh) refl)) (λ a n e. record { marks = refl; value = refl }) (λ a e. e) g
