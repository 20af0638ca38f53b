use Rattle.bbm_counterrun.proofs.Common.{Step}
use Rattle.bbm_rules.proofs.Common.{Vec, Global, ◌-◌, length, option_map, take}
use Rattle.bbm_counterrun.proofs.FindRun.{last_is, leaf_at_last, some_at_last}
use Rattle.bbm_counterrun.proofs.first_run.find_over_leaf.Goals as goal

pub returns-in_ok-found-in-Write-clause-leaf : goal.returns-in_ok-found-in-Write-clause-leaf
returns-in_ok-found-in-Write-clause-leaf c =
    let events = c.as_slice-events.result.now in
    leaf_at_last c.args.header.now events (take (length events - 1) events) c.last-item.result c.in-Write.pe c.in-Write.place c.in-Write.value
    c.in-Write.is (last_is events c.last-item.result c.in-len1-up.len_at_least c.last-item.is) _ c.as_slice-events.ensures.value _
    c.in_ok-found-in-Write.ensures.leaf

pub returns-in_ok-found-in-Write-clause-finds : goal.returns-in_ok-found-in-Write-clause-finds
returns-in_ok-found-in-Write-clause-finds c =
    let events = c.as_slice-events.result.now in
    some_at_last c.args.header.now events (take (length events - 1) events) c.last-item.result c.in-Write.pe c.in-Write.place c.in-Write.value
    c.in-Write.is (last_is events c.last-item.result c.in-len1-up.len_at_least c.last-item.is) _ c.as_slice-events.ensures.value
    (option_map (λ (v : Vec Step Global). v.items)) c.in_ok-found-in-Write.found c.in_ok-found-in-Write.ensures.finds
