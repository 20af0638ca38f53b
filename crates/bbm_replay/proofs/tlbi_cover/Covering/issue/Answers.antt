use Rattle.bbm_rules.proofs.Common.{err_from_is_err_and}
use Rattle.bbm_replay.proofs.Findings.{on_ok}
use Rattle.bbm_replay.proofs.Noting.{none_covered, not_noted, noted_found}
use Rattle.bbm_replay.proofs.tlbi_cover.Covering.issue.Goals as goal

pub returns-in_err-all : goal.returns-in_err-all
returns-in_err-all c =
    let p = err_from_is_err_and c.from_residual.result c.from_residual.ensures.1 in
    not_noted c.args.map.now c.args.self.now c.args.pe c.args.reach c.from_residual.result p.0 p.1

pub returns : goal.returns
returns c =
    let by = c.args.self.now in
    let map = c.args.map.now in
    let found = c.in_ok-all.ensures in
    record {
      noted = on_ok c.issue_at.result c.issue_at.ensures.noted
          (noted_found map by c.args.pe c.args.reach c.issue_at.new.self c.find.new.found.items c.deref.result.now
          c.deref.ensures (found.grows.0 (none_covered map by c.new-found.result.items c.new-found.ensures.items))
          (found.settled c.if-not-all.false) c.issue_at.ensures.unnoted);
      only = c.issue_at.ensures.only;
      kept = c.issue_at.ensures.kept;
    }
