use Rattle.bbm_rules.proofs.Common.{◌∷◌, List, reverse, subst, sym, Event, Dsb}
use Rattle.bbm_tlb_machine.specs.MachinePendings.{IsPending, Pending}
use Rattle.bbm_tlb_machine.proofs.PendingSteps.{dsb_step}
use Rattle.bbm_tlb_machine.proofs.pending.take_event.Goals as goal

pub returns-in-Dsb : goal.returns-in-Dsb
returns-in-Dsb c = λ stands.
    let h = reverse c.args.events.now in
    subst (λ (e : Event). IsPending c.args.header.now (e ∷ h) c.answer.new.pendings.items) (sym c.in-Dsb.is)
    (subst (λ (ps : List Pending). IsPending c.args.header.now (Dsb c.in-Dsb.pe c.in-Dsb.dsb ∷ h) ps) (sym c.answer.ensures)
    (dsb_step c.args.header.now c.in-Dsb.pe c.in-Dsb.dsb h c.args.pendings.now.items stands))
