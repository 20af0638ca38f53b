use Rattle.bbm_roots.proofs.Common.{◌≡◌, ◌∙◌, ap, sym, get, nat_eq, tag_key, Some, rules}
use Rattle.bbm_roots.specs.TagsByRoot.{has_key}
use Rattle.bbm_roots.proofs.Entries.{leaves-all}
use Rattle.bbm_roots.proofs.hold.leave.Goals as goal

pub returns-in-Some-clause-left : goal.returns-in-Some-clause-left
returns-in-Some-clause-left c =
    leaves-all _ _ c.args.root _ c.leave_each.ensures (λ g p held.
    let is : get nat_eq c.args.by_root.now c.args.root ≡ Some c.in-Some.tags = search rules in
    ap (has_key (tag_key g)) (sym is) ∙ c.requires g c.args.root p held)
