use Rattle.bbm_roots.proofs.Common.{◌∙◌, ap, tag_key, entry_bit}
use Rattle.bbm_roots.proofs.Keys.{forgotten}
use Rattle.bbm_roots.proofs.hold.forget.Goals as goal

pub returns : goal.returns
returns c = λ l g r p.
    ap (entry_bit l r p) (c.swap_remove.ensures.updates.0 (tag_key g))
    ∙ forgotten c.args.holds.now c.args.key l r p (c.requires l r p) (tag_key g)
