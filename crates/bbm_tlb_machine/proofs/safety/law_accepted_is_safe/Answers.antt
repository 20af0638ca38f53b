use Rattle.bbm_events.specs.LineLaws.{LineLaws}
use Rattle.bbm_tlb_machine.specs.Safe.{OneRootATag, Safe}
use Rattle.bbm_tlb_machine.proofs.ReadLogs.{accepted_says}
use Rattle.bbm_tlb_machine.proofs.safety.law_accepted_is_safe.Goals as goal

pub returns-clause-safe : goal.returns-clause-safe
returns-clause-safe c trust limits =
    let laws : LineLaws = record { header = c.law_header_in_range.ensures; item = c.law_item_fits.ensures } in
    accepted_says laws trust limits Safe (λ heading. c.law_safe.ensures heading trust)

pub returns-clause-one_root : goal.returns-clause-one_root
returns-clause-one_root c trust limits =
    let laws : LineLaws = record { header = c.law_header_in_range.ensures; item = c.law_item_fits.ensures } in
    accepted_says laws trust limits OneRootATag (λ heading. c.law_one_root_a_tag.ensures heading trust)
