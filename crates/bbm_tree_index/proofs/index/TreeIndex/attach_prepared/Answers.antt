use Rattle.bbm_tree_index.proofs.Common.{Hung, get}
use Rattle.bbm_rules.proofs.Common.{ℕ, length, nat_eq, refl, slice_get, sym, ap, ◌∙◌, subst}
use Rattle.bbm_tree_index.specs.Index.{heading_of}
use Rattle.bbm_tree_index.proofs.Attaching.{attaches, sound_after}
use Rattle.bbm_tree_index.proofs.Growing.{pages_same}
use Rattle.bbm_tree_index.proofs.Reaching.{ready}
use Rattle.bbm_tree_index.proofs.Surveying.{tables_known}
use Rattle.bbm_tree_index.proofs.index.TreeIndex.attach_prepared.Goals as goal

pub attach_all-requires-clause-pages : goal.attach_all-requires-clause-pages
attach_all-requires-clause-pages c = λ k table at.
    (c.requires.prepared.1.tells.surveyed.wells k table (ap (λ ts. slice_get ts k) (sym c.deref.ensures.value) ∙ at)).pages

pub attach_all-requires-clause-known : goal.attach_all-requires-clause-known
attach_all-requires-clause-known c = λ k p table at.
    tables_known (ready c.requires.prepared.1 c.requires.prepared.2) k p table (ap (λ ts. slice_get ts k) (sym c.deref.ensures.value) ∙ at)

pub invariant_of-self-clause-sound : goal.invariant_of-self-clause-sound
unfolding heading_of
invariant_of-self-clause-sound c =
    sound_after (ready c.requires.prepared.1 c.requires.prepared.2) (get nat_eq c.attach_all.new.roles)
    (subst (λ ts. (p : ℕ) → Hung ts (length ts) p (get nat_eq c.args.self.now.roles p) (get nat_eq c.attach_all.new.roles p))
    c.deref.ensures.value c.attach_all.ensures.roles)

pub invariant_of-self-clause-paged : goal.invariant_of-self-clause-paged
invariant_of-self-clause-paged c = pages_same c.attach_all.ensures.same c.args.self.now.paged

pub returns-clause-attached : goal.returns-clause-attached
unfolding heading_of
returns-clause-attached c = λ at prepared named. attaches (ready prepared named) _ refl
    (subst (λ ts. (p : ℕ) → Hung ts (length ts) p (get nat_eq c.args.self.now.roles p) (get nat_eq c.attach_all.new.roles p))
    c.deref.ensures.value c.attach_all.ensures.roles)
