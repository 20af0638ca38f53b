use Rattle.bbm_rules.proofs.Common.{◌≡◌, take, reverse}
use Rattle.std.specs.List.{flat_map}
use Rattle.bbm_oracle_rules.specs.Conflicts.{keeper_pages}
use Rattle.bbm_oracle_rules.proofs.rules.keepers_of_each.Given as goal

abbrev pub invariant-loop-reading : goal.invariant-loop-reading
invariant-loop-reading g l = l.pages.items
    ≡ flat_map (keeper_pages l.header (g.E.TagEvidence.trust l.evidence) (reverse l.after) l.roots l.given_up)
    (take l.reading-index l.readings)
