use Rattle.bbm_place_map.proofs.Common.{sym, ◌∙◌, false≢true}
use Rattle.bbm_place_map.proofs.work.add_fresh.Goals as goal

pub returns-else-not-is_empty : goal.returns-else-not-is_empty
returns-else-not-is_empty c = record {
  there = λ wide q below is. absurd (false≢true (sym (c.is_empty.ensures.0 c.if-not-is_empty.false q) ∙ is));
  kept = λ wide q j holds. holds;
}
