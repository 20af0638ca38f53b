use Rattle.bbm_replay.proofs.Common.{marks_at, MayAdmit, PlaceMap}
use Rattle.bbm_rules.proofs.Common.{◌≡◌, None, sym, ◌∙◌, subst}
use Rattle.bbm_place_map.specs.Map.{IsPosition}
use Rattle.bbm_replay.proofs.Inside.{taken}
use Rattle.bbm_replay.proofs.Unbroken.{may_admit_unbroken, writes_unbroken}
use Rattle.bbm_replay.proofs.parts.ReplayState.write_unbroken.Goals as goal

pub admit-requires-clause-may : goal.admit-requires-clause-may
admit-requires-clause-may c = may_admit_unbroken c.requires.at c.requires.unlocked c.requires.unbroken c.args.live.now
    c.core-new.result c.requires.live c.core-new.ensures.value

pub put_at-requires : goal.put_at-requires
put_at-requires c = subst (λ (x : PlaceMap). IsPosition x c.args.write.now.position.now) (sym c.in-Ok.ensures.same_map)
    c.requires.position

pub returns-in-Ok : goal.returns-in-Ok
returns-in-Ok c =
    let w = c.args.write.now in
    let place = w.position.now.place in
    let mid = c.admit.new.self in
    let m : MayAdmit c.args.self.now w.pe place w.value w.path.now c.args.live.now c.core-new.result
    = may_admit_unbroken c.requires.at c.requires.unlocked c.requires.unbroken c.args.live.now c.core-new.result
    c.requires.live c.core-new.ensures.value in
    taken c.laws.ensures c.rules.ensures m c.law_others.ensures mid c.in-Ok.ensures c.put_at.new.self
    c.args.live.now c.requires.live
    (writes_unbroken mid.map c.put_at.new.self w.pe place w.value
    (subst (λ (x : PlaceMap). marks_at x place ≡ None) (sym c.in-Ok.ensures.same_map) c.requires.unbroken)
    c.put_at.ensures.marks c.put_at.ensures.pends c.law_idle.ensures c.put_at.ensures.put c.args.live.now
    c.core-new.result (λ none. c.requires.stays (sym none ∙ c.core-new.ensures.value)))
    c.law_idle.ensures
