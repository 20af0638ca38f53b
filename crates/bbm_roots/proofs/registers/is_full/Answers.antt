use Rattle.bbm_roots.proofs.Common.{◌∙◌, sym, ap, length, nat_le, List, RootValue}
use Rattle.bbm_roots.proofs.Columns.{read, full}
use Rattle.bbm_roots.proofs.registers.is_full.Goals as goal

pub returns : goal.returns
returns c =
    c.is_full.ensures.value ∙ full _ c.is_full.ensures.fits
    ∙ ap (λ (xs : List RootValue). nat_le 9 (length xs))
    (sym (read _ _ _ c.index.result.now c.get.ensures.value c.requires c.index.ensures))
