use Rattle.bbm_place_map.proofs.Common.{either}
use Rattle.bbm_place_map.proofs.Holding.{told_before}
use Rattle.bbm_place_map.proofs.work.fresh_writers.Goals as goal

pub returns-then-is_empty : goal.returns-then-is_empty
returns-then-is_empty c = λ q not_in.
    either (told_before c.args.marks.now.writers c.in-Some.old.writers c.in-Some.old.seen c.args.marks.now.seen c.minus.result
    c.minus-then-is_empty.result c.minus.ensures (c.is_empty.ensures.0 c.if-is_empty.true) c.minus-then-is_empty.ensures q not_in) (λ none. none)
    (λ was. (c.in-Some.old, c.in-Some.is, was.0, was.1))
