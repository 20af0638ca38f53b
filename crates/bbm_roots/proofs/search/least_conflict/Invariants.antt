use Rattle.bbm_roots.proofs.Common.{take, list_any, is_clash, IsLeast, ReadingUpTo}
use Rattle.bbm_roots.proofs.search.least_conflict.Given as goal

abbrev pub invariant-loop-reading : goal.invariant-loop-reading
invariant-loop-reading l =
    IsLeast ReadingUpTo (λ x. list_any (is_clash l.holds l.n l.seen x) (take l.reading-index l.seen)) l.least
