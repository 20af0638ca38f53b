use Rattle.bbm_rules.proofs.Common.{sym, ◌∙◌}
use Rattle.bbm_replay.proofs.Found.{has_number}
use Rattle.bbm_replay.proofs.Outside.{outside_ok, outside_rewritten}
use Rattle.bbm_replay.proofs.parts.ReplayState.write_outside.Goals as goal

pub is_fresh_at-requires : goal.is_fresh_at-requires
is_fresh_at-requires c =
    has_number c.args.self.now.map c.args.self.now.index (record { place = c.args.place; page = c.args.page })
    c.requires.may.2.numbers c.requires.position

pub write_refused-requires-clause-unfresh : goal.write_refused-requires-clause-unfresh
write_refused-requires-clause-unfresh c = sym c.is_fresh_at.ensures ∙ c.if-not-is_fresh_at.true

pub returns-then-rewrites : goal.returns-then-rewrites
returns-then-rewrites c = rw c.get.ensures.value
    (outside_rewritten c.laws.ensures c.rules.ensures c.args.self.now c.args.pe c.args.place c.args.value c.requires.may
    c.requires.outside (sym c.is_fresh_at.ensures ∙ c.if-not-is_fresh_at.false)
    (cc (c.value_of.ensures, c.rewrites.ensures, c.if-rewrites.true)))

pub returns : goal.returns
returns c =
    outside_ok c.laws.ensures c.rules.ensures c.args.self.now c.args.pe c.args.place c.args.value c.requires.may
    c.requires.outside (sym c.is_fresh_at.ensures ∙ c.if-not-is_fresh_at.false)
    (cc (c.value_of.ensures, c.rewrites.ensures, c.if-rewrites.false))
    c.law_others.ensures c.put_at.new.self c.put_at.ensures.put
    c.put_at.ensures.marks c.put_at.ensures.pends c.law_idle.ensures
