use Rattle.bbm_rules.proofs.Common.{◌∙◌, sym}
use Rattle.bbm_unmapped.proofs.Known.{only_off}
use Rattle.bbm_unmapped.proofs.unmapped.Unmapped.may_have_free.Goals as goal

pub returns-in-Some : goal.returns-in-Some
returns-in-Some c = λ off. only_off c.args.self.now c.args.outputs.now c.in-Some.page c.in-Some.ensures.only (sym
    c.is_free.ensures ∙ off)
