use Rattle.bbm_rules.proofs.Common.{◌≡◌, ◌<◌, length, sym, ◌∙◌, arith, eqb-false}
use Rattle.bbm_idle.proofs.FindPlaces.{newest_added}
use Rattle.bbm_idle.proofs.find_needed.newest_adds.Goals as goal

pub returns-else-is_empty : goal.returns-else-is_empty
returns-else-is_empty c = λ n older noted_is p.
    let apart : length c.args.log.now ≡ 0 → ⊥ = eqb-false (length c.args.log.now) 0 (sym c.if-is_empty.ensures) in
    let some : 0 < length c.args.log.now = omega (arith, apart) in
    c.added_by.ensures p
    ∙ newest_added c.args.header.now c.args.log.now c.index-log-last.result c.args.seats.now p n older some c.index-log-last.is noted_is
