use Rattle.bbm_rules.proofs.Common.{◌≡◌, sym, ap, ◌∙◌, arith, rules, reverse, is_base_at}
use Rattle.bbm_events.specs.Heading.{Heading}
use Rattle.bbm_oracle_rules.proofs.rules.is_base.Goals as goal
use Rattle.bbm_lemmas.proofs.Words.{pe_finds, pe_none}

pub returns-then-branch : goal.returns-then-branch
returns-then-branch c =
    let at : c.unwrap-pe.result ≡ c.loop-number.number = search rules in
    let pes : c.header.inside.pes ≡ c.args.header.now.pes = ap (λ (h : Heading). h.pes) c.header.view_is in
    sym (pe_finds c.args.header.now.pes (is_base_at (reverse c.args.events.now) c.args.page) c.unwrap-pe.result
    (omega (arith, at, pes, c.loop-number-test.true)) (sym c.in_ok-is_base_at.ensures ∙ c.if-branch.true))

pub returns : goal.returns
returns c =
    let pes : c.header.inside.pes ≡ c.args.header.now.pes = ap (λ (h : Heading). h.pes) c.header.view_is in
    sym (pe_none c.args.header.now.pes (is_base_at (reverse c.args.events.now) c.args.page)
    (λ p lt. c.loop-number.invariant p (omega (arith, pes, lt))))
