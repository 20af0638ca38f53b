use Rattle.bbm_certify.proofs.Common.{notes_of, notes, IsDueAt}
use Rattle.bbm_rules.proofs.Common.{reverse}
use Rattle.bbm_certify.proofs.DueAdds.{each_all, each_more, each_none}
use Rattle.bbm_certify.proofs.places.add_places.Goals as goal

pub loop-place-init : goal.loop-place-init
loop-place-init c = λ newest k.
    each_none (λ a x. IsDueAt c.args.history.now.heading c.args.history.now.trust (notes c.args.history.now) newest
    (notes_of (reverse c.args.log.now)) a x) c.args.due.now.items

pub loop-place-preserved : goal.loop-place-preserved
loop-place-preserved c = λ newest k.
    each_more (λ a x. IsDueAt c.args.history.now.heading c.args.history.now.trust (notes c.args.history.now) newest
    (notes_of (reverse c.args.log.now)) a x) c.args.places.now c.loop-place.place-index c.place-item.result c.loop-place-test.true
    c.place-item.is c.args.due.now.items c.loop-place.due.items c.add_at.new.due.items (c.loop-place.invariant newest k)
    (c.in_ok-add_at.ensures newest k)

pub returns : goal.returns
returns c = λ newest k.
    each_all (λ a x. IsDueAt c.args.history.now.heading c.args.history.now.trust (notes c.args.history.now) newest
    (notes_of (reverse c.args.log.now)) a x) c.args.places.now c.loop-place.place-index c.args.due.now.items c.loop-place.due.items
    c.loop-place-test.false (c.loop-place.invariant newest k)
