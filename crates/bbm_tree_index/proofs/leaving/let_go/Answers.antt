use Rattle.bbm_tree_index.proofs.Common.{Role, Gone, Untracked, get}
use Rattle.bbm_rules.proofs.Common.{◌≡◌, ◌==◌, ◌∙◌, ℕ, Bool, true, false, Option, Some, ap, sym, refl, unwrap_or, nat_eq, if◌then◌else◌}
use Rattle.bbm_tree_index.proofs.Numbered.{number_at}
use Rattle.bbm_tree_index.proofs.leaving.let_go.Goals as goal

pub put_at-requires : goal.put_at-requires
put_at-requires c =
    number_at c.args.roles.now c.args.page c.get.result (c.requires ∙ ap (λ (n : ℕ). Some n) (sym c.get.ensures.value))

pulled : (b : Bool) (o : Option Role) → unwrap_or (if b then Some Gone else o) Untracked ≡ (if b then Gone else unwrap_or o Untracked)
pulled true o = refl
pulled false o = refl

pub returns-clause-roles : goal.returns-clause-roles
returns-clause-roles c = λ p.
    ap (λ (o : Option Role). unwrap_or o Untracked) (c.put_at.ensures.roles p)
    ∙ pulled (p == c.args.page) (get nat_eq c.args.roles.now p)
