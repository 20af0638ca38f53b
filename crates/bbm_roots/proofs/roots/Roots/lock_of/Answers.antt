use Rattle.bbm_roots.proofs.Common.{◌∙◌, ap, option_and_then, Declared}
use Rattle.bbm_roots.proofs.roots.Roots.lock_of.Goals as goal

pub returns-then-self : goal.returns-then-self
returns-then-self c heading h stands =
    c.declared_lock.ensures ∙ ap (option_and_then (λ (r : Declared). r.lock)) (stands.declared c.args.page)
