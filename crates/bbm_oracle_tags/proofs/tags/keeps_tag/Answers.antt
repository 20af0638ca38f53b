use Rattle.bbm_rules.proofs.Common.{◌≡◌, sym, ap, ◌∙◌, arith, rules, reverse, Trust}
use Rattle.bbm_events.specs.Heading.{Heading}
use Rattle.bbm_oracle_tags.specs.Keepers.{keeps_at}
use Rattle.bbm_oracle_tags.proofs.tags.keeps_tag.Goals as goal
use Rattle.bbm_lemmas.proofs.Words.{pe_finds, pe_none}

pub returns-then-branch : goal.returns-then-branch
returns-then-branch g c =
    let trust : Trust = g.E.TagEvidence.trust c.args.evidence.now in
    let at : c.unwrap-pe.result ≡ c.loop-number.number = search rules in
    let pes : c.header.inside.pes ≡ c.args.header.now.pes = ap (λ (h : Heading). h.pes) c.header.view_is in
    sym (pe_finds c.args.header.now.pes (λ p. keeps_at c.args.header.now trust c.args.keeper p c.args.root c.args.tag
    (reverse c.args.events.now))
    c.unwrap-pe.result (omega (arith, at, pes, c.loop-number-test.true))
    (sym c.in_ok-keeps_at.ensures ∙ c.if-branch.true))

pub returns : goal.returns
returns g c =
    let trust : Trust = g.E.TagEvidence.trust c.args.evidence.now in
    let pes : c.header.inside.pes ≡ c.args.header.now.pes = ap (λ (h : Heading). h.pes) c.header.view_is in
    sym (pe_none c.args.header.now.pes (λ p. keeps_at c.args.header.now trust c.args.keeper p c.args.root c.args.tag
    (reverse c.args.events.now))
    (λ p lt. c.loop-number.invariant p (omega (arith, pes, lt))))
