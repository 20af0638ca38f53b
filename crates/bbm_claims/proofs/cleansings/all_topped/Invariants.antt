use Rattle.bbm_rules.proofs.Common.{◌≡◌, map, reverse, take}
use Rattle.bbm_rules.specs.Notes.{topped}
use Rattle.bbm_oracle_patterns.specs.Kept.{notes_of}
use Rattle.bbm_claims.proofs.cleansings.all_topped.Given as goal

abbrev pub invariant-loop-kept : goal.invariant-loop-kept
invariant-loop-kept l =
    notes_of (reverse l.tops.items) ≡ map topped (notes_of (reverse (take l.kept-index l.log)))
