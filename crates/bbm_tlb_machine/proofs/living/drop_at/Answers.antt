use Rattle.bbm_rules.proofs.Common.{◌==◌, not, rules, filter_same}
use Rattle.bbm_tlb_machine.specs.MachineRun.{Living}
use Rattle.bbm_tlb_machine.proofs.living.drop_at.Goals as goal

pub returns : goal.returns
returns c =
    filter_same _ (λ (l : Living). not (l.number == c.args.number)) _ (λ x b f' k. search rules) _ _ c.retain.ensures.filtered
