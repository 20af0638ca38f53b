use Rattle.bbm_rules.proofs.Common.{◌≡◌, ◌&&◌, reverse, refl, IfOk-weaker, Trust, holds_tag, tag_set, tags_of}
use Rattle.bbm_oracle_tags.specs.HeldTagSets.{HasTags, has_tag}
use Rattle.bbm_oracle_tags.proofs.TagLemmas.{same-set, set-same}
use Rattle.bbm_oracle_tags.proofs.tags.tag_set_of.Goals as goal
use Rattle.bbm_lemmas.proofs.Bools.{and_implied}

pub returns : goal.returns
returns g c =
    let trust : Trust = g.E.TagEvidence.trust c.args.evidence.now in
    let heading = c.args.header.now in
    let h = reverse c.args.events.now in
    let root = c.args.root in
    IfOk-weaker c.held_among.result
    (λ set. HasTags (λ g. has_tag g c.deref.result.now && holds_tag heading trust root g h) set)
    (λ set. set ≡ tag_set (tags_of heading trust root h))
    (λ set has. same-set (λ g k e. (c.law_equality_tests.ensures.tags g k).0 e)
    (λ g. (c.law_equality_tests.ensures.tags g g).1 refl)
    (λ g. holds_tag heading trust root g h) set (tag_set (tags_of heading trust root h))
    (set-same (λ g. has_tag g c.deref.result.now && holds_tag heading trust root g h)
    (λ g. holds_tag heading trust root g h) set
    (λ g. and_implied (has_tag g c.deref.result.now) (holds_tag heading trust root g h)
    (λ held. rw c.deref.ensures.value (c.in_ok-tags.ensures trust g held))) has)
    (λ e. (c.law_tag_set.ensures heading trust).none root h e)
    (λ t e. (c.law_tag_set.ensures heading trust).one root h t e)
    (λ e. (c.law_tag_set.ensures heading trust).many root h e))
    c.held_among.ensures
