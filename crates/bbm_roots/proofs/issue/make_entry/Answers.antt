use Rattle.bbm_roots.proofs.Common.{◌∙◌, sym, refl, wait_bit, tag_key}
use Rattle.bbm_roots.proofs.Keys.{entry-made, entry-same}
use Rattle.bbm_roots.proofs.issue.make_entry.Goals as goal

pub returns-in-Ok-clause-same : goal.returns-in-Ok-clause-same
returns-in-Ok-clause-same c = λ g p.
    entry-same c.args.waits.now c.insert.new.self c.new-key.result _ c.in-Ok.ensures.updates.0
    (sym c.contains_key.ensures ∙ c.if-contains_key.false) (wait_bit p) (c.none.ensures p) refl (tag_key g)

pub returns-in-Ok-clause-made : goal.returns-in-Ok-clause-made
returns-in-Ok-clause-made c =
    entry-made c.args.waits.now c.insert.new.self c.new-key.result _ c.in-Ok.ensures.updates.0 c.args.tag c.new-key.ensures
