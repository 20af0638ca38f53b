use Rattle.bbm_replay.proofs.Outside.{outside_null, outside_unfresh}
use Rattle.bbm_replay.proofs.parts.ReplayState.write_refused.Goals as goal

pub is_null-requires : goal.is_null-requires
is_null-requires c = c.requires.may.2.numbers

pub returns-then-is_null : goal.returns-then-is_null
returns-then-is_null c = rw c.get.ensures.value
    (outside_null c.laws.ensures c.rules.ensures c.args.self.now c.args.pe c.args.place c.args.value c.requires.may
    c.requires.outside c.requires.unfresh (cc (c.page-page.ensures, c.is_null.ensures, c.if-is_null.true)))

pub returns : goal.returns
returns c = rw (c.get-2.ensures.value, c.page-page.ensures)
    (outside_unfresh c.laws.ensures c.rules.ensures c.args.self.now c.args.pe c.args.place c.args.value c.requires.may
    c.requires.outside c.requires.unfresh (cc (c.page-page.ensures, c.is_null.ensures, c.if-is_null.false)))
