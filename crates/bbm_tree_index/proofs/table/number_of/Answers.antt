use Rattle.bbm_tree_index.proofs.Common.{IndexMap, Role, index_map_len, keys}
use Rattle.bbm_rules.proofs.Common.{◌∙◌, ℕ, List, Option, None, Some, IfSome, ap, is_some, sym, ◌≡◌, ◌<◌}
use Rattle.bbm_page_map.specs.PageLists.{number_in}
use Rattle.bbm_tree_index.proofs.Numbered.{known_number, number_low}
use Rattle.bbm_tree_index.proofs.table.number_of.Goals as goal

pub returns-clause-number : goal.returns-clause-number
returns-clause-number c = c.number.ensures ∙ ap (λ (ps : List ℕ). number_in ps c.args.page) c.requires

pub returns-clause-known : goal.returns-clause-known
returns-clause-known c = ap is_some (returns-clause-number c) ∙ known_number c.args.roles.now.entries c.args.page

low : (roles : IndexMap ℕ Role (Unit {0})) (p : ℕ) (o : Option ℕ) → o ≡ number_in (keys roles) p
    → IfSome o (λ n. n < index_map_len roles)
low roles p None is = tt
low roles p (Some n) is = number_low roles p n (sym is)

pub returns-clause-within : goal.returns-clause-within
returns-clause-within c = low c.args.roles.now c.args.page c.number.result (returns-clause-number c)
