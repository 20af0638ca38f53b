use Rattle.bbm_rules.proofs.Common.{not, rules, filter_same}
use Rattle.bbm_tlb_machine.specs.MachinePendings.{Pending, is_answered}
use Rattle.bbm_tlb_machine.proofs.pending.answer.Goals as goal

pub returns : goal.returns
returns c =
    filter_same _ (λ (p : Pending). not (is_answered c.args.pe c.args.dsb p)) _ (λ x b f' k. search rules) _ _
    c.retain.ensures.filtered
