use Rattle.bbm_rules.proofs.Common.{◌≡◌, take, reverse}
use Rattle.bbm_oracle_rules.specs.Conflicts.{holder_pages}
use Rattle.bbm_oracle_rules.proofs.rules.other_holders.Given as goal

abbrev pub invariant-loop-root : goal.invariant-loop-root
invariant-loop-root g l =
    l.pages.items ≡ holder_pages l.header (g.E.TagEvidence.trust l.evidence) (reverse l.after) l.reading
    (take l.root-index l.roots)
