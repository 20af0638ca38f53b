use Rattle.bbm_roots.proofs.Common.{◌≡◌, ◌&&◌, ap, ◌∙◌, sym, Bool, Tag, nat_eq, eq-eqb, eqb-true, is_held_under}
use Rattle.bbm_roots.proofs.Common.{and-true, tag_key}
use Rattle.bbm_roots.proofs.Keys.{key-with, keyed-tag}
use Rattle.bbm_roots.proofs.search.with_entry.Goals as goal

pub returns-then-is_held_somewhere-clause-added : goal.returns-then-is_held_somewhere-clause-added
returns-then-is_held_somewhere-clause-added c = λ test h.
    let key = c.args.key in
    let tag = c.tag.result in
    let show = λ (g : Tag). is_held_under c.args.n g c.args.root key c.args.held.now in
    let is : (g : Tag) → show g ≡ nat_eq (tag_key g) key = λ g.
    ap (λ (b : Bool). nat_eq (tag_key g) key && b) (sym c.is_held_somewhere.ensures ∙ c.if-is_held_somewhere.true)
    ∙ and-true (nat_eq (tag_key g) key) in
    c.with_tag.ensures test show h
    (is tag ∙ eq-eqb (tag_key tag) key (ap tag_key c.tag.ensures ∙ key-with key))
    (λ g e. sym (c.tag.ensures ∙ keyed-tag g key (eqb-true (tag_key g) key (sym (is g) ∙ e))))
