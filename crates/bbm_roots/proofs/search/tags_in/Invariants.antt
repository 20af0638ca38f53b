use Rattle.bbm_roots.proofs.Common.{take, list_any, HasTags}
use Rattle.bbm_roots.proofs.Entries.{shows}
use Rattle.bbm_roots.proofs.search.tags_in.Given as goal

abbrev pub invariant-loop-index : goal.invariant-loop-index
invariant-loop-index l =
    HasTags (λ g. list_any (shows l.n l.root g) (take l.index l.holds.entries)) l.tags
