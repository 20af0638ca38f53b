use Rattle.bbm_rules.proofs.Common.{◌&&◌, take, reverse, holds_tag}
use Rattle.bbm_oracle_tags.specs.HeldTagSets.{HasTags, has_tag}
use Rattle.bbm_oracle_tags.proofs.tags.held_among.Given as goal

abbrev pub invariant-loop-tag : goal.invariant-loop-tag
invariant-loop-tag g l =
    HasTags (λ k. has_tag k (take l.tag-index l.tags)
    && holds_tag l.header (g.E.TagEvidence.trust l.evidence) l.root k (reverse l.events)) l.set
