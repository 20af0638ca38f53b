use Rattle.bbm_texts.proofs.Common.{Step}
use Rattle.bbm_rules.proofs.Common.{Vec, Global}
use Rattle.bbm_texts.proofs.ConflictRuns.{found-fit, reports-found}
use Rattle.bbm_texts.proofs.counterrun.report_run.Goals as goal

pub tell_found-requires : goal.tell_found-requires
tell_found-requires g c = record {
  fit = found-fit (λ (v : Vec Step Global). v.items) c.args.header.now c.requires.ends.0 c.requires.ends.1 c.args.log.now.items c.args.found.now c.requires.leaf c.requires.ends.2 c.requires.finds;
}

pub returns : goal.returns
returns g c = λ h e ends.
    reports-found (λ (v : Vec Step Global). v.items) c.args.header.now h e c.args.verdict.now c.args.log.now.items c.args.found.now _ c.tell_found.result c.status.result c.settled.result _ _ _ _ c.requires.leaf ends c.requires.finds
    c.status.ensures c.settled.ensures c.tell_found.ensures.puts c.event_count.ensures
