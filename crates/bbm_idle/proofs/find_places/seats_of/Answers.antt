use Rattle.bbm_idle.proofs.Common.{notes, adds_with, place_adds}
use Rattle.bbm_rules.proofs.Common.{any}
use Rattle.bbm_idle.proofs.FindLists.{any_more}
use Rattle.bbm_idle.proofs.find_places.seats_of.Goals as goal

pub loop-place-preserved : goal.loop-place-preserved
loop-place-preserved c = λ p tlbi.
    let heading = c.args.history.now.heading in
    let h = notes c.args.history.now in
    any_more (adds_with heading h tlbi p) _
    (any (place_adds heading h tlbi p) c.loop-place.seats.items) (any (place_adds heading h tlbi p) c.add_seat.new.seats.items)
    c.args.places.now c.loop-place.place-index c.place-item.result (c.seat_at.ensures p tlbi) c.loop-place-test.true
    c.place-item.is (c.loop-place.invariant p tlbi) (c.in_ok-add_seat.ensures heading h p tlbi)
