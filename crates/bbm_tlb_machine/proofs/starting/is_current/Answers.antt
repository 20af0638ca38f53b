use Rattle.bbm_rules.proofs.Common.{reverse}
use Rattle.bbm_tlb_machine.proofs.ListWords.{among_numbers}
use Rattle.bbm_tlb_machine.proofs.starting.is_current.Goals as goal

pub returns-in_ok-values-in-Some : goal.returns-in_ok-values-in-Some
returns-in_ok-values-in-Some c =
    let numbers = among_numbers c.args.number c.deref.result.now in
    let current = c.in-Some.ensures (reverse c.args.events.now) c.args.pe in
    cc (numbers, current, c.has_asid.ensures, c.deref.ensures.value, c.in_ok-values-in-Some.ensures)
