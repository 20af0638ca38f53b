use Rattle.bbm_rules.proofs.Common.{List, Event, Heading}
use Rattle.bbm_events.specs.LineLaws.{LineLaws}
use Rattle.bbm_tlb_machine.specs.Isolated.{IsolatedBySay, WalksTables}
use Rattle.bbm_tlb_machine.proofs.ReadLogs.{accepted_says}
use Rattle.bbm_tlb_machine.proofs.safety.law_accepted_is_isolated.Goals as goal

pub returns-clause-isolated : goal.returns-clause-isolated
returns-clause-isolated c trust limits =
    let laws : LineLaws = record { header = c.law_header_in_range.ensures; item = c.law_item_fits.ensures } in
    accepted_says laws trust limits (IsolatedBySay trust) (λ heading. c.law_isolated.ensures heading trust)

pub returns-clause-tables : goal.returns-clause-tables
returns-clause-tables c trust limits =
    let laws : LineLaws = record { header = c.law_header_in_range.ensures; item = c.law_item_fits.ensures } in
    accepted_says laws trust limits (λ (heading : Heading) (log : List Event). WalksTables heading trust log)
    (λ heading. c.law_walks_tables.ensures heading trust)
