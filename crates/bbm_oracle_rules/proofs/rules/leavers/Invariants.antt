use Rattle.bbm_rules.proofs.Common.{◌≡◌, take, reverse}
use Rattle.bbm_oracle_rules.specs.Conflicts.{leaver_pages}
use Rattle.bbm_oracle_rules.proofs.rules.leavers.Given as goal

abbrev pub invariant-loop-page : goal.invariant-loop-page
invariant-loop-page g l =
    l.pages.items ≡ leaver_pages l.header (g.E.TagEvidence.trust l.evidence) (reverse l.after) l.reading
    (take l.page-index l.given_up)
