use Rattle.bbm_roots.proofs.Common.{◌≡◌, Some, None, refl, ap, rules, Bool, false, ℕ, cond, kind_of_reg, names_null}
use Rattle.bbm_roots.proofs.Common.{base_of, is_root, Event, Heading, List, Reg, missing_root, sym, ◌∙◌}
use Rattle.bbm_roots.proofs.roots.Roots.named_root.Goals as goal

missing : (heading : Heading) (h : List Event) (reg : Reg) (value : ℕ) (null : Bool) (base : ℕ) →
    names_null heading reg null ≡ false → Some base ≡ base_of value → missing_root heading h reg value null ≡ cond (is_root h (kind_of_reg reg) base) None (Some base)
missing heading h reg value null base walks is = rw (walks, ← is) refl

pub returns-in-Some-root_page-clause-named : goal.returns-in-Some-root_page-clause-named
returns-in-Some-root_page-clause-named c = λ heading h stands.
    let walks : names_null heading c.args.reg c.args.null ≡ false =
    ap (λ (g : Heading). names_null g c.args.reg c.args.null) (sym stands.header) ∙ search rules in
    let base : Some c.in-Some.base ≡ base_of c.args.value = search rules in
    rw (walks, ← base) (ap (λ (n : ℕ). Some n) (c.in-Some-root_page.ensures.found heading h stands).0)

pub returns-in-Some-root_page-clause-found : goal.returns-in-Some-root_page-clause-found
returns-in-Some-root_page-clause-found c = λ heading h stands.
    let kind : c.kind_of.result ≡ kind_of_reg c.args.reg = search rules in
    rw (missing heading h c.args.reg c.args.value c.args.null c.in-Some.base
    (ap (λ (g : Heading). names_null g c.args.reg c.args.null) (sym stands.header) ∙ search rules) (search rules))
    (rw (← kind, (c.in-Some-root_page.ensures.found heading h stands).1) refl)

pub returns-in-None-root_page-clause-missing : goal.returns-in-None-root_page-clause-missing
returns-in-None-root_page-clause-missing c =
    let kind : c.kind_of.result ≡ kind_of_reg c.args.reg = search rules in (
      c.in-Some.base,
      refl,
      λ heading h stands.
          rw (missing heading h c.args.reg c.args.value c.args.null c.in-Some.base
          (ap (λ (g : Heading). names_null g c.args.reg c.args.null) (sym stands.header) ∙ search rules) (search rules))
          (rw (← kind, c.in-None-root_page.ensures.missing refl heading h stands) refl),
    )
