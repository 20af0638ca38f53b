use Rattle.bbm_rules.proofs.Common.{◌≤◌, arith, length, reverse}
use Rattle.bbm_counterrun.proofs.FirstFound.{found_is_short}
use Rattle.bbm_counterrun.proofs.first_run.run_found.Goals as goal

pub run_of-requires : goal.run_of-requires
run_of-requires c =
    let search = c.args.search.now in
    let short : length c.in-Some.found.reads ≤ 4
    = found_is_short search.header.now (reverse search.events.now) 0 search.place search.value search.kind search.way.now
    c.in-Some.found (rw c.in-Some.is at c.in_ok-found.ensures) c.requires.proper in
    omega (arith, short)
