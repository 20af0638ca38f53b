use Rattle.bbm_place_map.proofs.Common.{arith, sym, subst, Effect, Publish}
use Rattle.bbm_place_map.specs.Dsbs.{HasEffect, VisitsAt}
use Rattle.bbm_place_map.proofs.Seats.{entry_there}
use Rattle.bbm_place_map.proofs.Rounds.{visit_stays}
use Rattle.bbm_place_map.proofs.visit.visit_at.Goals as goal

pub publish_at-requires-clause-heard : goal.publish_at-requires-clause-heard
publish_at-requires-clause-heard c = (subst (λ (x : Effect). HasEffect x c.args.barrier.now) c.in-Publish.is c.requires.has).0

pub returns-in-Publish : goal.returns-in-Publish
returns-in-Publish c =
    let old = c.args.entries.now in
    let new = c.publish_at.new.entries in
    let e = entry_there old.list.items c.args.k (omega arith) in
    let f = c.publish_at.ensures.entry e.0 e.1 in
    let P : Effect → Type 0 = λ x. VisitsAt x c.args.barrier.now c.args.k old new c.args.lost.now c.args.lost.now in
    subst P (sym c.in-Publish.is)
    (visit_stays (Publish c.in-Publish.heard) c.args.barrier.now old new c.args.lost.now c.args.k e.0 f.0 c.publish_at.ensures.cells e.1 f.1 f.3
    c.publish_at.ensures.size (f.1, f.2))

pub returns-in-Complete : goal.returns-in-Complete
returns-in-Complete c =
    let P : Effect → Type 0 = λ x. VisitsAt x c.args.barrier.now c.args.k c.args.entries.now c.complete_at.new.entries c.args.lost.now
    c.complete_at.new.lost in
    subst P (sym c.in-Complete.is) c.complete_at.ensures
