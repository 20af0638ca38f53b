use Rattle.bbm_tree_index.proofs.Common.{IndexMap, Role, roles_of}
use Rattle.bbm_rules.proofs.Common.{◌∙◌, ℕ, ap, sym}
use Rattle.bbm_tree_index.proofs.FirstLeavers.{hang_taken, none_taken, root_taken}
use Rattle.bbm_tree_index.proofs.leaving.take_page.Goals as goal

pub take_out-requires-clause-goes : goal.take_out-requires-clause-goes
take_out-requires-clause-goes c = let g = c.requires.goes in let r = c.in-RootPage in (
  g.0,
  g.2,
  root_taken g.0 (roles_of c.args.roles.now) c.args.map.now g.2 c.args.page c.role-role.result
      (c.role-role.ensures ∙ ap (λ (t : IndexMap ℕ Role (Unit {0})). roles_of t c.args.page) c.new.ensures) c.args.header.now
      c.args.leaving.now g.1 c.start_level.result r.kind r.first r.part r.is c.start_level.ensures.value
      (sym c.starts.ensures ∙ c.if-starts.true),
)

pub take_out-requires-in-Hangs-clause-goes : goal.take_out-requires-in-Hangs-clause-goes
take_out-requires-in-Hangs-clause-goes c = let g = c.requires.goes in let r = c.in-Hangs in (
  g.0,
  g.2,
  hang_taken g.0 (roles_of c.args.roles.now) c.args.map.now g.2 c.args.page c.role-role.result
      (c.role-role.ensures ∙ ap (λ (t : IndexMap ℕ Role (Unit {0})). roles_of t c.args.page) c.new.ensures) c.args.header.now
      c.args.leaving.now g.1 r.parent r.level r.base r.first r.kind r.is (sym c.starts.ensures ∙ c.if-starts.true),
)

pub returns-in-RootPage-clause-taken : goal.returns-in-RootPage-clause-taken
returns-in-RootPage-clause-taken c = λ s is d. let r = c.in-RootPage in
    (c.take_out.ensures.taken s d (root_taken s (roles_of c.args.roles.now) c.args.map.now d c.args.page c.role-role.result
    (c.role-role.ensures ∙ ap (λ (t : IndexMap ℕ Role (Unit {0})). roles_of t c.args.page) c.new.ensures) c.args.header.now
    c.args.leaving.now is c.start_level.result r.kind r.first r.part r.is c.start_level.ensures.value
    (sym c.starts.ensures ∙ c.if-starts.true))).0

pub returns-in-Hangs-clause-taken : goal.returns-in-Hangs-clause-taken
returns-in-Hangs-clause-taken c = λ s is d. let r = c.in-Hangs in
    (c.take_out-in-Hangs.ensures.taken s d (hang_taken s (roles_of c.args.roles.now) c.args.map.now d c.args.page c.role-role.result
    (c.role-role.ensures ∙ ap (λ (t : IndexMap ℕ Role (Unit {0})). roles_of t c.args.page) c.new.ensures) c.args.header.now
    c.args.leaving.now is r.parent r.level r.base r.first r.kind r.is (sym c.starts.ensures ∙ c.if-starts.true))).0

pub returns-else-starts-clause-taken : goal.returns-else-starts-clause-taken
returns-else-starts-clause-taken c = λ s is d.
    none_taken s (roles_of c.args.roles.now) c.args.map.now d c.args.page c.role-role.result
    (c.role-role.ensures ∙ ap (λ (t : IndexMap ℕ Role (Unit {0})). roles_of t c.args.page) c.new.ensures) c.args.header.now
    c.args.leaving.now is (sym c.starts.ensures ∙ c.if-starts.false)
