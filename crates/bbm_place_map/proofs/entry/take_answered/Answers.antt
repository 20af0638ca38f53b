use Rattle.bbm_place_map.proofs.Common.{ℕ, Bool, true, false, subst, answers_broadcast, answers_local, lane_of}
use Rattle.bbm_place_map.specs.Dsbs.{Takes}
use Rattle.bbm_place_map.proofs.Pendings.{takes_answered}
use Rattle.bbm_place_map.proofs.entry.take_answered.Goals as goal

-- of the TLBIs that are broadcast, and of the others
all : (c : goal.After-or) → Takes (lane_of c.args.issuer true) (answers_broadcast c.args.dsb) c.args.pendings.now.items
    c.take_if-all.new.pendings.items c.take_if-all.result
all c =
    let P : ℕ → Type 0 = λ k. Takes k c.completes_broadcast.result c.args.pendings.now.items c.take_if-all.new.pendings.items c.take_if-all.result in
    let Q : Bool → Type 0 = λ b. Takes (lane_of c.args.issuer true) b c.args.pendings.now.items c.take_if-all.new.pendings.items c.take_if-all.result in
    subst Q c.completes_broadcast.ensures (subst P c.new.ensures c.take_if-all.ensures)

own : (c : goal.After-or) → Takes (lane_of c.args.issuer false) (answers_local c.args.dsb) c.take_if-all.new.pendings.items
    c.take_if-own.new.pendings.items c.take_if-own.result
own c =
    let old = c.take_if-all.new.pendings.items in
    let P : ℕ → Type 0 = λ k. Takes k c.completes_local.result old c.take_if-own.new.pendings.items c.take_if-own.result in
    let Q : Bool → Type 0 = λ b. Takes (lane_of c.args.issuer false) b old c.take_if-own.new.pendings.items c.take_if-own.result in
    subst Q c.completes_local.ensures (subst P c.new-2.ensures c.take_if-own.ensures)

pub returns : goal.returns
returns c =
    takes_answered c.args.pendings.now.items c.take_if-all.new.pendings.items c.take_if-own.new.pendings.items c.args.issuer c.args.dsb
    c.take_if-all.result c.take_if-own.result c.or.result (all c) (own c) c.or.ensures
