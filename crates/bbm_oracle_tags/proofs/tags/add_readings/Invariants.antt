use Rattle.bbm_rules.proofs.Common.{◌≡◌, true, take}
use Rattle.bbm_regimes.specs.declared.regime.Tag.{Tag}
use Rattle.bbm_oracle_tags.specs.Moments.{is_read}
use Rattle.bbm_oracle_tags.specs.HeldTagSets.{has_tag}
use Rattle.bbm_oracle_tags.proofs.tags.add_readings.Given as goal

abbrev pub invariant-loop-reading : goal.invariant-loop-reading
invariant-loop-reading l = record {
  kept : (g : Tag) → has_tag g l.initial.tags.items ≡ true → has_tag g l.tags.items ≡ true;
  added : (g : Tag) → is_read (take l.reading-index l.readings) g l.root ≡ true → has_tag g l.tags.items ≡ true;
}
