use Rattle.bbm_roots.proofs.Common.{◌≡◌, Some, None, sym, ◌∙◌, ap, rules, Option, get, nat_eq, Declared}
use Rattle.bbm_rules.proofs.RootLaw.{root_of_page}
use Rattle.bbm_roots.proofs.RootLists.{is_of_kind, kind-found}
use Rattle.bbm_roots.proofs.roots.Roots.root_page.Goals as goal

pub returns-then-same_kind-clause-found : goal.returns-then-same_kind-clause-found
returns-then-same_kind-clause-found c = λ heading h stands.
    let kept : Some c.in-Some.root.now ≡ get nat_eq c.args.self.now.declared c.args.base = search rules in
    let there = ap (λ (r : Declared). Some r) c.root.view_is ∙ kept ∙ stands.declared c.args.base in (
      (root_of_page h c.args.base _ (sym there)).1,
      sym (ap (is_of_kind c.args.kind) there ∙ kind-found h c.args.kind c.args.base)
          ∙ (sym c.same_kind.ensures ∙ c.if-same_kind.true),
    )

pub returns-else-same_kind-clause-missing : goal.returns-else-same_kind-clause-missing
returns-else-same_kind-clause-missing c = λ none heading h stands.
    let kept : Some c.in-Some.root.now ≡ get nat_eq c.args.self.now.declared c.args.base = search rules in
    sym (ap (is_of_kind c.args.kind) (ap (λ (r : Declared). Some r) c.root.view_is ∙ kept ∙ stands.declared c.args.base)
    ∙ kind-found h c.args.kind c.args.base)
    ∙ (sym c.same_kind.ensures ∙ c.if-same_kind.false)

pub returns-in-None-clause-missing : goal.returns-in-None-clause-missing
returns-in-None-clause-missing c = λ none heading h stands.
    let absent : Option Declared = None in
    let kept : absent ≡ get nat_eq c.args.self.now.declared c.args.base = search rules in
    sym (ap (is_of_kind c.args.kind) (kept ∙ stands.declared c.args.base) ∙ kind-found h c.args.kind c.args.base)
