use Rattle.bbm_roots.proofs.Common.{◌≡◌, ◌∙◌, ap, is_some, get, nat_eq, rules, Declared}
use Rattle.bbm_roots.proofs.roots.Roots.is_declared.Goals as goal

pub returns : goal.returns
returns c heading h stands =
    let kept : c.is_some.result ≡ is_some (get nat_eq c.args.self.now.declared c.args.page) = search rules in
    kept ∙ ap (is_some {T = Declared}) (stands.declared c.args.page)
