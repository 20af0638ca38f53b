use Rattle.bbm_rules.proofs.Common.{◌≡◌, false, take, any, events_of, value_of}
use Rattle.bbm_rules.specs.Mapped.{maps}
use Rattle.bbm_oracle_trees.specs.Past.{notes}
use Rattle.bbm_judge.proofs.table_rules.is_end_over.Given as goal

abbrev pub invariant-loop-place : goal.invariant-loop-place
invariant-loop-place g l = any (λ place. maps l.kind l.level (value_of (events_of (notes l.history)) place) l.page)
    (take l.place-index l.place-items) ≡ false
