use Rattle.bbm_roots.proofs.Common.{◌∙◌, sym}
use Rattle.bbm_roots.proofs.Columns.{read}
use Rattle.bbm_roots.proofs.registers.loads_at.Goals as goal

pub returns-clause-value : goal.returns-clause-value
returns-clause-value g c =
    c.as_slice.ensures.value ∙ sym (read _ _ _ c.index.result.now c.get.ensures.value c.requires c.index.ensures)
