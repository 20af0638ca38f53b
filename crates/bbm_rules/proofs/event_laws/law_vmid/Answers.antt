use Rattle.bbm_rules.proofs.VmidLaw.{several_vmids}
use Rattle.bbm_rules.proofs.event_laws.law_vmid.Goals as goal

pub returns-clause-several : goal.returns-clause-several
returns-clause-several c = several_vmids
