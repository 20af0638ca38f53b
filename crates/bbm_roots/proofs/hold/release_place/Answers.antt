use Rattle.bbm_roots.proofs.Common.{◌<◌, ◌≤◌, ◌∙◌, ◌&&◌, not, arith, ap, sym, length, Option, keeps_in, tag_key}
use Rattle.bbm_roots.proofs.Common.{wait_bit, PeMask, and-true}
use Rattle.bbm_roots.proofs.Places.{at-place, at-past, at-emptied, at-outside}
use Rattle.bbm_roots.proofs.hold.release_place.Goals as goal

pub returns-then-place-len-clause-holds : goal.returns-then-place-len-clause-holds
returns-then-place-len-clause-holds c = λ l g r p.
    let below : c.args.place < length c.args.waits.now.items = omega (arith, c.if-place-len.true, c.len.ensures) in
    c.release_all.ensures.holds l g r p
    ∙ ap (λ (o : Option PeMask). keeps_in c.args.holds.now l g r p && not (wait_bit p o))
    (sym (at-place c.args.waits.now.items c.args.place c.index_mut.result.now below c.index_mut.ensures.value
    (tag_key g)))

pub returns-then-place-len-clause-waits : goal.returns-then-place-len-clause-waits
returns-then-place-len-clause-waits c =
    at-emptied _ _ _ c.release_all.ensures.waits (omega (arith, c.if-place-len.true, c.len.ensures))

pub returns-else-place-len-clause-holds : goal.returns-else-place-len-clause-holds
returns-else-place-len-clause-holds c = λ l g r p.
    let past : length c.args.waits.now.items ≤ c.args.place = omega (arith, c.if-place-len.false, c.len.ensures) in
    sym (ap (λ (o : Option PeMask). keeps_in c.args.holds.now l g r p && not (wait_bit p o))
    (at-past c.args.waits.now.items c.args.place (tag_key g) past) ∙ and-true (keeps_in c.args.holds.now l g r p))

pub returns-else-place-len-clause-waits : goal.returns-else-place-len-clause-waits
returns-else-place-len-clause-waits c = at-outside _ _ (omega (arith, c.if-place-len.false, c.len.ensures))
