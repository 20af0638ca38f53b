use Rattle.bbm_rules.proofs.Common.{take, reverse, sym, ◌∙◌, arith, Isb}
use Rattle.bbm_claims.proofs.Kepts.{length_before}
use Rattle.bbm_claims.proofs.Takers.{read_there, unread_more}
use Rattle.bbm_rules.proofs.TagLaw.{unread_yet}
use Rattle.bbm_claims.proofs.taken.is_read_since.Goals as goal

pub loop-i-init : goal.loop-i-init
loop-i-init c = (
  omega arith,
  unread_yet c.args.header.now c.args.pe c.args.tag c.args.count (reverse (take c.args.count c.args.events.now))
      (omega (arith, length_before c.args.events.now c.args.count c.requires)),
)

pub loop-i-preserved : goal.loop-i-preserved
loop-i-preserved c = (
  omega (arith, c.loop-i.invariant.0),
  unread_more c.args.header.now c.args.pe c.args.tag c.args.count c.args.events.now c.loop-i.i (Isb 0)
      c.loop-i-test.true
      c.loop-i.invariant.1 (sym c.in_ok-read.ensures ∙ c.if-read.false),
)

pub returns-then-read : goal.returns-then-read
returns-then-read c =
    sym (read_there c.args.header.now c.args.pe c.args.tag c.args.count c.args.events.now c.loop-i.i (Isb 0)
    c.loop-i-test.true
    c.loop-i.invariant.0 (sym c.in_ok-read.ensures ∙ c.if-read.true))
