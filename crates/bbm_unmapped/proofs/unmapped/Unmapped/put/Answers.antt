use Rattle.bbm_unmapped.proofs.Common.{get, in_outputs}
use Rattle.bbm_unmapped.specs.Kept.{free_by, may_by}
use Rattle.bbm_unmapped.specs.Unmapped.{free_in, may_map, pages_in}
use Rattle.bbm_rules.proofs.Common.{◌==◌, ◌∙◌, ap, eqb-true, nat_eq}
use Rattle.bbm_unmapped.proofs.Columns.{pages_same, put_within, read_put}
use Rattle.bbm_unmapped.proofs.unmapped.Unmapped.put.Goals as goal

pub invariant_of-self-clause-paged : goal.invariant_of-self-clause-paged
invariant_of-self-clause-paged c = pages_same c.args.self.now.pages c.put.new.self c.put.ensures.keys c.args.self.now.paged

pub invariant_of-self-clause-free_within : goal.invariant_of-self-clause-free_within
unfolding pages_in
invariant_of-self-clause-free_within c = λ p. put_within (p == c.args.page) c.args.leaves.free
    (free_by c.args.self.now.pages p) (free_by c.put.new.self p) (in_outputs c.args.self.now.free p)
    (read_put (λ leaves. leaves.free) c.args.leaves (get nat_eq c.args.self.now.pages p) (get nat_eq c.put.new.self p)
    c.args.page p (c.put.ensures.updates c.args.page c.requires.at p))
    (λ same free. ap (in_outputs c.args.self.now.free) (eqb-true p c.args.page same) ∙ c.requires.free free)
    (c.args.self.now.free_within p)

pub invariant_of-self-clause-leaves_within : goal.invariant_of-self-clause-leaves_within
unfolding pages_in
invariant_of-self-clause-leaves_within c = λ table p. put_within (table == c.args.page) (in_outputs c.args.leaves.bounds p)
    (may_by c.args.self.now.pages table p) (may_by c.put.new.self table p) (in_outputs c.args.self.now.leaves p)
    (read_put (λ leaves. in_outputs leaves.bounds p) c.args.leaves (get nat_eq c.args.self.now.pages table)
    (get nat_eq c.put.new.self table) c.args.page table (c.put.ensures.updates c.args.page c.requires.at table))
    (λ same within. c.requires.leaves p within) (c.args.self.now.leaves_within table p)

pub returns-clause-free : goal.returns-clause-free
unfolding free_in pages_in
returns-clause-free c = λ p. read_put (λ leaves. leaves.free) c.args.leaves (get nat_eq c.args.self.now.pages p) (get nat_eq c.put.new.self p)
    c.args.page p (c.put.ensures.updates c.args.page c.requires.at p)

pub returns-clause-may : goal.returns-clause-may
unfolding may_map pages_in
returns-clause-may c = λ table p. read_put (λ leaves. in_outputs leaves.bounds p) c.args.leaves (get nat_eq c.args.self.now.pages table)
    (get nat_eq c.put.new.self table) c.args.page table (c.put.ensures.updates c.args.page c.requires.at table)
