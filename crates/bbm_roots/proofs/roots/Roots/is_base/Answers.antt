use Rattle.bbm_roots.proofs.Common.{◌≡◌, ◌∙◌, refl, Option, Some, None, true, is_some, rules, Declared}
use Rattle.bbm_roots.proofs.Common.{root_at, some_pe}
use Rattle.bbm_rules.specs.Rules.{is_base_at}
use Rattle.bbm_roots.proofs.Common.{false≢true}
use Rattle.bbm_roots.proofs.Unroots.{base_is}
use Rattle.bbm_roots.proofs.roots.Roots.is_base.Goals as goal

pub returns : goal.returns
returns c heading h stands there = by (root_at h c.args.page) refl there
  where
    is : c.is_some.result ≡ is_some c.first_user.result
    is = search rules

    by : (o : Option Declared) → root_at h c.args.page ≡ o → is_some o ≡ true
        → c.is_some.result ≡ some_pe heading.pes (is_base_at h c.args.page)
    by None at e = absurd (false≢true e)
    by (Some r) at e = is ∙ base_is c.laws_below.ensures c.args.self.now heading h stands c.args.page r at c.first_user.result c.first_user.ensures
