use Rattle.bbm_roots.proofs.Common.{◌≡◌, ◌&&◌, ◌||◌, not, take, arith, refl, Bool, nat_eq, proved, Is, wait_in, has_tag}
use Rattle.bbm_roots.proofs.Common.{is_of_tag, same_tag, Reading}
use Rattle.bbm_roots.proofs.Tests.{any-next}
use Rattle.bbm_roots.proofs.pending.clear_place.Goals as goal

cleared : (h k a b : Bool) → ((h && not (k && a)) && not (k && b)) ≡ (h && not (k && (a || b)))
cleared = proved 4 (λ h k a b. Is ((h && not (k && a)) && not (k && b)) (h && not (k && (a || b)))) refl

pub loop-reading-preserved : goal.loop-reading-preserved
loop-reading-preserved c = λ g p.
    let readings = c.args.readings.now in
    let i = c.loop-reading.reading-index in
    let x : Reading = record { tag = c.reading.inside.tag; root = c.reading.inside.root } in
    let is = rw (← c.reading.view_is) at c.reading-item.is in
    let old = wait_in c.args.map.now g p in
    let here = nat_eq p c.args.pe in
    rw (c.clear_tag.ensures g p, c.loop-reading.invariant g p, any-next (is_of_tag g) readings i x (omega arith) is)
    (cleared old here (has_tag g (take i readings)) (same_tag x.tag g))
