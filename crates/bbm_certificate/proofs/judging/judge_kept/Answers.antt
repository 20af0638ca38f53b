use Rattle.bbm_rules.proofs.Common.{arith, length-reverse}
use Rattle.bbm_certificate.proofs.Sound.{kept_fit}
use Rattle.bbm_certificate.proofs.judging.judge_kept.Goals as goal

pub verify-requires : goal.verify-requires
verify-requires c =
    let same = length-reverse c.args.kept.now.events.items in
    let few = c.requires.read.few_events in
    record { fits = kept_fit c.args.header.now c.args.kept.now.events.items c.requires.read.events; few = omega (arith, same, few) }
