use Rattle.bbm_rules.proofs.Common.{◌∙◌, ap, sym, Event}
use Rattle.bbm_tlb_machine.specs.MachineRun.{leaves_some}
use Rattle.bbm_tlb_machine.proofs.PendingSteps.{left}
use Rattle.bbm_tlb_machine.proofs.machine.Machine.is_left.Goals as goal

pub returns-in-Dsb : goal.returns-in-Dsb
returns-in-Dsb c =
    c.leaves.ensures
    ∙ (left c.args.header.now c.args.self.now.state c.in-Dsb.pe c.in-Dsb.dsb c.args.self.now.pending c.requires
    ∙ ap (λ (e : Event). leaves_some c.args.header.now c.args.self.now.state e) (sym c.in-Dsb.is))
