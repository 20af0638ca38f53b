use Rattle.bbm_rules.proofs.Common.{◌+◌, ◌-◌, length, take, drop}
use Rattle.bbm_certify.proofs.Ended.{ends_some, ends_without}
use Rattle.bbm_certify.proofs.Searches.{behind}
use Rattle.bbm_certify.proofs.patterns.ends_of.Goals as goal

pub returns-in-Some-first_waiting : goal.returns-in-Some-first_waiting
returns-in-Some-first_waiting c =
    ends_some c.args.header.now c.args.spot.now.place c.args.spot.now.pe c.args.answer.now c.args.tlbi.now c.args.later.now
    c.in-Some.wait c.in-Some.ensures
    (take (length c.args.later.now - (c.in-Some.wait + 1)) (drop (c.in-Some.wait + 1) c.args.later.now))
    (behind c.args.later.now c.in-Some.wait) c.in-Some-first_waiting.gap c.in-Some-first_waiting.ensures

pub returns-in-None-first_waiting : goal.returns-in-None-first_waiting
returns-in-None-first_waiting c =
    ends_without c.args.header.now c.args.spot.now.place c.args.spot.now.pe c.args.answer.now c.args.tlbi.now c.args.later.now
    c.in-Some.wait c.in-Some.ensures
    (take (length c.args.later.now - (c.in-Some.wait + 1)) (drop (c.in-Some.wait + 1) c.args.later.now))
    (behind c.args.later.now c.in-Some.wait) c.in-None-first_waiting.ensures
