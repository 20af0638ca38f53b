use Rattle.bbm_roots.proofs.Common.{◌≡◌, ◌∙◌, ap, Option, Some, None, get, nat_eq, rules, Declared}
use Rattle.bbm_roots.proofs.RootLists.{is_of_kind, kind-found}
use Rattle.bbm_roots.proofs.roots.Roots.is_root.Goals as goal

pub returns-in-Some : goal.returns-in-Some
returns-in-Some c heading h stands =
    let kept : Some c.in-Some.root.now ≡ get nat_eq c.args.self.now.declared c.args.page = search rules in
    c.same_kind.ensures
    ∙ ap (is_of_kind c.args.kind) (ap (λ (r : Declared). Some r) c.root.view_is ∙ kept ∙ stands.declared c.args.page)
    ∙ kind-found h c.args.kind c.args.page

pub returns-in-None : goal.returns-in-None
returns-in-None c heading h stands =
    let none : Option Declared = None in
    let kept : none ≡ get nat_eq c.args.self.now.declared c.args.page = search rules in
    ap (is_of_kind c.args.kind) (kept ∙ stands.declared c.args.page) ∙ kind-found h c.args.kind c.args.page
