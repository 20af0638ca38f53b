use Rattle.bbm_certify.proofs.Common.{AreDue}
use Rattle.bbm_rules.proofs.Common.{List, IfOk-weaker, subst, sym, Claim}
use Rattle.bbm_certify.proofs.DueNone.{none_at}
use Rattle.bbm_certify.proofs.making.Making.due.Goals as goal

pub returns-in-Dsb : goal.returns-in-Dsb
returns-in-Dsb c =
    IfOk-weaker c.due_at_dsb.result _ _ (λ due k h taken. k h c.in-Dsb.pe c.in-Dsb.dsb c.in-Dsb.is taken) c.due_at_dsb.ensures

pub returns-in_default : goal.returns-in_default
returns-in_default c = λ h taken.
    subst (λ (cs : List Claim). AreDue c.args.header.now h c.args.event.now cs) (sym c.new.ensures.items)
    (none_at c.args.header.now (c.known.ensures c.args.header.now c.in_ranges.ensures) h c.args.event.now
    c.in_default.not-Dsb taken.keeps_rules)
