use Rattle.bbm_idle.proofs.Common.{Heading, needed_by}
use Rattle.bbm_rules.proofs.Common.{◌≡◌, reverse, sym, ap, ◌∙◌, arith, rules, inl, inr, cases_lt, pe_finds}
use Rattle.bbm_lemmas.proofs.Words.{pe_none}
use Rattle.bbm_regimes.specs.PeMask.{pe_in}
use Rattle.bbm_idle.proofs.find_needed.is_needed.Goals as goal

pub returns-then-branch : goal.returns-then-branch
returns-then-branch c =
    let at : c.unwrap-pe.result ≡ c.loop-number.number = search rules in
    let pes : c.header.inside.pes ≡ c.args.header.now.pes = ap (λ (h : Heading). h.pes) c.header.view_is in
    sym (pe_finds c.args.header.now.pes (needed_by c.args.header.now (reverse c.args.before.now) c.args.event.now
    (pe_in c.args.effect.now.added))
    c.unwrap-pe.result (omega (arith, at, pes, c.loop-number-test.true))
    (sym c.in_ok-is_needed_at.ensures ∙ c.if-branch.true))

pub loop-number-preserved : goal.loop-number-preserved
loop-number-preserved c = λ p lt.
    let at : c.unwrap-pe.result ≡ c.loop-number.number = search rules in
    elim (cases_lt p c.loop-number.number) [
      | inl under ↦ c.loop-number.invariant p under
      | inr over ↦
          let same : p ≡ c.unwrap-pe.result = omega (arith, at, lt, over) in
          ap (needed_by c.args.header.now (reverse c.args.before.now) c.args.event.now (pe_in c.args.effect.now.added))
          same
          ∙ sym c.in_ok-is_needed_at.ensures ∙ c.if-branch.false
    ]

pub returns : goal.returns
returns c =
    let pes : c.header.inside.pes ≡ c.args.header.now.pes = ap (λ (h : Heading). h.pes) c.header.view_is in
    sym (pe_none c.args.header.now.pes (needed_by c.args.header.now (reverse c.args.before.now) c.args.event.now
    (pe_in c.args.effect.now.added))
    (λ p lt. c.loop-number.invariant p (omega (arith, pes, lt))))
