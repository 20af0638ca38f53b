use Rattle.std.proofs.Common.{ap, nat_eq, ◌∙◌}
use Rattle.std.proofs.lemmas.Cmp.{nat_eq_equiv}
use Rattle.std.proofs.lemmas.Map.Keys.{IsDistinct-push}
use Rattle.std.specs.Map.{keys_of, lookup}
use Rattle.bbm_page_map.proofs.Entries.{absent_key, keys_push, lookup_push}
use Rattle.bbm_page_map.proofs.column.PageColumn.push.Goals as goal

pub invariant_of-self : goal.invariant_of-self
invariant_of-self g c =
    let es = c.self.inside.entries.items in
    let none = rw (← c.self.view_is) at c.requires.absent in
    rw (c.push_reserved.ensures.items, keys_push es c.args.page c.args.value)
    (IsDistinct-push nat_eq_equiv (keys_of es) c.args.page c.self.invariant (absent_key es c.args.page none))

pub returns-clause-updates : goal.returns-clause-updates
returns-clause-updates g c = λ q.
    let es = c.self.inside.entries.items in
    let none = rw (← c.self.view_is) at c.requires.absent in
    rw (← c.self.view_is)
    (ap (lookup (nat_eq q)) c.push_reserved.ensures.items ∙ lookup_push es c.args.page c.args.value q none)

pub returns-clause-keys : goal.returns-clause-keys
returns-clause-keys g c =
    rw (← c.self.view_is)
    (ap keys_of c.push_reserved.ensures.items ∙ keys_push c.self.inside.entries.items c.args.page c.args.value)
