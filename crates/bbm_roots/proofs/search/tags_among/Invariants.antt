use Rattle.bbm_roots.proofs.Common.{take, list_any, HasTags}
use Rattle.bbm_roots.proofs.TagLists.{shows_tag}
use Rattle.bbm_roots.proofs.search.tags_among.Given as goal

abbrev pub invariant-loop-index : goal.invariant-loop-index
invariant-loop-index l =
    HasTags (λ g. list_any (shows_tag l.holds l.n l.root g) (take l.index l.tags.entries)) l.found
