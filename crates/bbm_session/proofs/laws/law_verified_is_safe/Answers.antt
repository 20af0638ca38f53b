use Rattle.bbm_rules.specs.Claims.Trust.{Listed}
use Rattle.bbm_session.proofs.laws.law_verified_is_safe.Goals as goal
use Rattle.bbm_tlb_machine.specs.Safe.{IsLog}

pub returns : goal.returns
returns c bytes heading claims log is says =
    let read = c.law_read_whole.ensures bytes heading log claims is in
    let kept = c.law_judged.ensures.only heading claims log says in
    let is_log : IsLog heading log = record { header = read.header; events = read.events } in
    record {
      heading = heading;
      log = log;
      claims = claims;
      read = is;
      is_log = is_log;
      kept = kept;
      safe = c.law_cert.ensures heading claims log is_log kept;
      one_root = c.law_one_root_a_tag.ensures heading (Listed claims) log is_log kept;
      isolated = c.law_isolated.ensures heading (Listed claims) log is_log kept;
    }
