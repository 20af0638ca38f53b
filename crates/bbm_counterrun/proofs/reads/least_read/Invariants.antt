use Rattle.bbm_counterrun.proofs.Common.{is_like, written_at}
use Rattle.bbm_rules.proofs.Common.{◌≡◌, filter, take, reverse, least}
use Rattle.bbm_counterrun.proofs.reads.least_read.Given as goal

abbrev pub invariant-loop-event : goal.invariant-loop-event
invariant-loop-event l = record {
  best : l.best ≡ least (filter (is_like l.header (reverse l.events) l.pe l.goal)
      (written_at (reverse (take l.event-index l.events)) l.goal.place));
}
