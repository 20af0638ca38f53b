use Rattle.std.proofs.Common.{Bool, ap, ◌∙◌, ◌&&◌, not}
use Rattle.bbm_regimes.specs.PeMask.{pe_in}
use Rattle.bbm_lemmas.proofs.Every.{none_missing}
use Rattle.bbm_regimes.proofs.pe.PeMask.has_all.Goals as goal

pub returns : goal.returns
returns c =
    none_missing c.args.n (λ p. pe_in c.args.self p) (λ p. pe_in c.minus.result p) c.is_empty.result
    (λ p. c.minus.ensures p ∙ ap (λ (b : Bool). b && not (pe_in c.args.self p)) (c.all.ensures p))
    c.is_empty.ensures
