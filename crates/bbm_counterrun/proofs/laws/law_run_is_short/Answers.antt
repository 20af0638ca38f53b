use Rattle.bbm_rules.proofs.Common.{◌≤◌, arith, start_of}
use Rattle.bbm_counterrun.proofs.RunLength.{run_is_short}
use Rattle.bbm_counterrun.proofs.laws.law_run_is_short.Goals as goal

pub returns : goal.returns
returns c heading h e plan ok plain =
    let start : start_of heading.world plan.kind ≤ 3
    = let low = (c.law_proper.ensures heading ok).start plan.kind in omega (arith, low) in
    let short = run_is_short heading h e plan start ((c.law_plain_is_tested.ensures heading h e plan).0 plain) plain.within in
    omega (arith, short)
