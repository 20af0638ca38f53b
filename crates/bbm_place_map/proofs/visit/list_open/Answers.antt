use Rattle.bbm_place_map.proofs.Common.{inl}
use Rattle.bbm_place_map.proofs.visit.list_open.Goals as goal

pub returns-then-not-is_at_rest-clause-there : goal.returns-then-not-is_at_rest-clause-there
returns-then-not-is_at_rest-clause-there c = λ wide. inl (c.add.ensures.there wide)
