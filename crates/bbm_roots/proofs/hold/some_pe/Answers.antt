use Rattle.bbm_roots.proofs.Common.{Bool, ◌&&◌, ◌∙◌, ap, pe_in}
use Rattle.bbm_roots.proofs.Tests.{some_pe-empty}
use Rattle.bbm_roots.proofs.hold.some_pe.Goals as goal

pub returns : goal.returns
returns c =
    some_pe-empty c.args.n (pe_in c.args.pes) (pe_in c.and.result) c.is_empty.result
    (λ p. c.and.ensures p ∙ ap (λ (b : Bool). pe_in c.args.pes p && b) (c.all.ensures p))
    c.is_empty.ensures.0 c.is_empty.ensures.1
