use Rattle.std.proofs.Common.{◌≡◌, [], arith, rules}
use Rattle.bbm_state_tests.proofs.roots.a_tlbi_is_issued_and_answered.Goals as goal

pub judge_tlbi-requires : goal.judge_tlbi-requires
judge_tlbi-requires c =
    let pe : c.unwrap-pe.result ≡ 1 = search rules in (_, [], c.in_ok-roots.ensures.empty, omega (arith, pe))
