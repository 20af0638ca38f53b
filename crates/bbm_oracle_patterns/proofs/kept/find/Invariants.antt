use Rattle.bbm_rules.proofs.Common.{◌≡◌, drop}
use Rattle.bbm_oracle_patterns.specs.Kept.{cover_in}
use Rattle.bbm_oracle_patterns.proofs.kept.find.Given as goal

abbrev pub invariant-loop-covered : goal.invariant-loop-covered
invariant-loop-covered l = cover_in (drop l.covered-index l.list) l.place
    ≡ cover_in l.list l.place
