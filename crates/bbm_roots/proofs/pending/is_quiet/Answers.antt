use Rattle.bbm_roots.proofs.Common.{◌∙◌, arith}
use Rattle.bbm_roots.proofs.Places.{at-place, at-past, none-in}
use Rattle.bbm_roots.proofs.pending.is_quiet.Goals as goal

pub returns-then-place-len : goal.returns-then-place-len
returns-then-place-len c = λ yes key. at-past c.args.waits.now.items c.args.place key (omega
    (arith, c.if-place-len.true, c.len.ensures))

pub returns-else-place-len : goal.returns-else-place-len
returns-else-place-len c = λ yes key.
    at-place c.args.waits.now.items c.args.place c.index.result.now (omega
    (arith, c.if-place-len.false, c.len.ensures)) c.index.ensures key
    ∙ none-in c.index.result.now (c.is_empty.ensures.0 yes) key
