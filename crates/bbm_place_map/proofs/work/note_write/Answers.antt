use Rattle.bbm_place_map.proofs.Common.{cases_Bool, pe_in, either}
use Rattle.bbm_place_map.proofs.work.note_write.Goals as goal

pub returns-then-is_clean-clause-told : goal.returns-then-is_clean-clause-told
returns-then-is_clean-clause-told c = λ wide q below.
    either (cases_Bool (pe_in c.fresh_writers-fresh.result q)) (c.add_fresh.ensures.there wide q below) (c.fresh_writers-fresh.ensures q)

pub returns-else-is_clean-clause-told : goal.returns-else-is_clean-clause-told
returns-else-is_clean-clause-told c = λ wide q below.
    either (cases_Bool (pe_in c.fresh_writers-fresh.result q)) (c.add_fresh.ensures.there wide q below) (c.fresh_writers-fresh.ensures q)
