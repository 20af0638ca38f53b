use Rattle.bbm_rules.proofs.Common.{◌≡◌, true, take, reverse}
use Rattle.bbm_regimes.specs.declared.regime.Tag.{Tag}
use Rattle.bbm_oracle_tags.specs.Moments.{IsMoment}
use Rattle.bbm_oracle_tags.specs.HeldTagSets.{has_tag, was_read}
use Rattle.bbm_oracle_tags.proofs.tags.add_read_at.Given as goal

abbrev pub invariant-loop-event : goal.invariant-loop-event
invariant-loop-event l = record {
  moment : IsMoment l.header.world l.pe (reverse (take l.event-index l.events)) l.moment;
  kept : (g : Tag) → has_tag g l.initial.tags.items ≡ true → has_tag g l.tags.items ≡ true;
  added : (g : Tag) → was_read l.header l.pe l.root g (reverse (take l.event-index l.events)) ≡ true
      → has_tag g l.tags.items ≡ true;
}
