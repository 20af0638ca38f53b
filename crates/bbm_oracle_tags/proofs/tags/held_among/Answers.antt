use Rattle.bbm_rules.proofs.Common.{◌&&◌, ◌||◌, ◌+◌, take, get_or, reverse, arith, get_or_default, Trust, same_tag}
use Rattle.bbm_rules.proofs.Common.{holds_tag}
use Rattle.bbm_regimes.specs.declared.regime.Tag.{Tag}
use Rattle.bbm_regimes.specs.declared.regime.Tag.TheVariants.{El2}
use Rattle.bbm_oracle_tags.specs.HeldTagSets.{has_tag}
use Rattle.bbm_oracle_tags.proofs.TagLemmas.{one-more, set-same}
use Rattle.bbm_oracle_tags.proofs.tags.held_among.Goals as goal

pub loop-tag-preserved : goal.loop-tag-preserved
loop-tag-preserved g c =
    let trust : Trust = g.E.TagEvidence.trust c.args.evidence.now in
    let i = c.loop-tag.tag-index in
    let tags = c.args.tags.now in
    let tag : Tag = get_or tags i El2 in
    set-same (λ g. (has_tag g (take i tags) && holds_tag c.args.header.now trust c.args.root g
    (reverse c.args.events.now))
    || (same_tag tag g && holds_tag c.args.header.now trust c.args.root g (reverse c.args.events.now)))
    (λ g. has_tag g (take (i + 1) tags) && holds_tag c.args.header.now trust c.args.root g (reverse c.args.events.now))
    c.with_held-set.result
    (λ g. one-more (λ g. holds_tag c.args.header.now trust c.args.root g (reverse c.args.events.now)) tags i tag g
    (omega arith) (get_or_default tags i El2 tag (omega arith)))
    (c.with_held-set.ensures (λ g. has_tag g (take i tags)
    && holds_tag c.args.header.now trust c.args.root g (reverse c.args.events.now))
    (λ g. holds_tag c.args.header.now trust c.args.root g (reverse c.args.events.now)) c.loop-tag.invariant
    c.in_ok-holds.ensures)
