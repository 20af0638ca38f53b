use Rattle.bbm_roots.proofs.Common.{◌∙◌, take, arith, ap, sym, list_any, take_all, is_clash, conflict_in, ReadingUpTo}
use Rattle.bbm_roots.proofs.Conflicts.{clash-split}
use Rattle.bbm_roots.proofs.Tests.{least-same, any-next}
use Rattle.bbm_roots.proofs.search.least_conflict.Goals as goal

pub loop-reading-preserved : goal.loop-reading-preserved
loop-reading-preserved c =
    let clash = is_clash c.args.holds.now c.args.n c.args.seen.now in
    let i = c.loop-reading.reading-index in
    least-same ReadingUpTo _ _
    (λ x. any-next (clash x) c.args.seen.now i c.reading-item.result (omega arith) c.reading-item.is) _
    (c.with_clash-least.ensures (λ x. list_any (clash x) (take i c.args.seen.now)) c.loop-reading.invariant)

pub returns : goal.returns
returns c =
    let holds = c.args.holds.now in
    let n = c.args.n in
    let seen = c.args.seen.now in
    least-same ReadingUpTo _ (conflict_in holds n seen)
    (λ x. sym (clash-split holds n seen x)
    ∙ ap (list_any (is_clash holds n seen x)) (sym (take_all c.loop-reading.reading-index seen (omega arith))))
    _ c.loop-reading.invariant
