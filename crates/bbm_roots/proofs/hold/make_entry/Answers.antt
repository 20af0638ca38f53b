use Rattle.bbm_roots.proofs.Common.{◌∙◌, ◌&&◌, Bool, false, sym, ap, refl, nat_eq, same_flag, and-false, entry_bit, tag_key}
use Rattle.bbm_roots.proofs.Keys.{entry-made, entry-same}
use Rattle.bbm_roots.proofs.hold.make_entry.Goals as goal

pub returns-in-Ok-clause-same : goal.returns-in-Ok-clause-same
returns-in-Ok-clause-same c = λ l g r p.
    entry-same c.args.holds.now c.insert.new.self c.new-key.result _ c.in-Ok.ensures.updates.0
    (sym c.contains_key.ensures ∙ c.if-contains_key.false) (entry_bit l r p)
    (ap (λ (b : Bool). (nat_eq c.args.root r && same_flag l false) && b) (c.none-pes.ensures p)
    ∙ and-false (nat_eq c.args.root r && same_flag l false))
    refl (tag_key g)

pub returns-in-Ok-clause-made : goal.returns-in-Ok-clause-made
returns-in-Ok-clause-made c =
    entry-made c.args.holds.now c.insert.new.self c.new-key.result _ c.in-Ok.ensures.updates.0 c.args.tag c.new-key.ensures
