use Rattle.bbm_replay.proofs.Common.{node_in}
use Rattle.bbm_rules.proofs.Common.{page_of, refl}
use Rattle.bbm_replay.proofs.Found.{found_at, found_tree, has_number, may_admit_found, none_at}
use Rattle.bbm_replay.proofs.Inside.{locked, taken, unlocked}
use Rattle.bbm_replay.proofs.parts.ReplayState.write_broken.Goals as goal

pub path-requires : goal.path-requires
path-requires c =
    has_number c.args.self.now.map c.args.self.now.index (record { place = c.args.place; page = c.args.page })
    c.requires.may.2.numbers c.requires.position

pub write_outside-requires-clause-outside : goal.write_outside-requires-clause-outside
write_outside-requires-clause-outside c =
    none_at (node_in c.args.self.now.index (page_of c.args.place)) c.args.place c.path.result c.in_default.is c.path.ensures

pub returns-in-Some-without_lock : goal.returns-in-Some-without_lock
returns-in-Some-without_lock c =
    let at = found_at (node_in c.args.self.now.index (page_of c.args.place)) c.args.place c.path.result c.in-Some.path
    c.in-Some.is c.path.ensures in
    locked c.rules.ensures (found_tree c.laws.ensures c.args.self.now c.args.pe c.args.place c.args.value c.requires.may
    c.args.place c.in-Some.path at refl)
    c.get.ensures.value c.without_lock.ensures c.in-Some-without_lock.at c.in-Some-without_lock.is

pub admit-requires-clause-may : goal.admit-requires-clause-may
admit-requires-clause-may c =
    let at = found_at (node_in c.args.self.now.index (page_of c.args.place)) c.args.place c.path.result c.in-Some.path
    c.in-Some.is c.path.ensures in
    let tree = found_tree c.laws.ensures c.args.self.now c.args.pe c.args.place c.args.value c.requires.may c.args.place
    c.in-Some.path at refl in
    may_admit_found c.laws.ensures tree
    (unlocked c.rules.ensures tree c.get.ensures.value c.without_lock.ensures c.in_default-without_lock.is) refl at
    c.live_at-live.result c.core_at-old.result c.core-new.result c.live_at-live.ensures c.core_at-old.ensures
    c.core-new.ensures.value

pub returns-in-Ok : goal.returns-in-Ok
returns-in-Ok c =
    let at = found_at (node_in c.args.self.now.index (page_of c.args.place)) c.args.place c.path.result c.in-Some.path
    c.in-Some.is c.path.ensures in
    let tree = found_tree c.laws.ensures c.args.self.now c.args.pe c.args.place c.args.value c.requires.may c.args.place
    c.in-Some.path at refl in
    let m = may_admit_found c.laws.ensures tree
    (unlocked c.rules.ensures tree c.get.ensures.value c.without_lock.ensures c.in_default-without_lock.is) refl at
    c.live_at-live.result c.core_at-old.result c.core-new.result c.live_at-live.ensures c.core_at-old.ensures
    c.core-new.ensures.value in
    taken c.laws.ensures c.rules.ensures m c.law_others.ensures c.admit.new.self c.in-Ok.ensures c.write_at.new.self
    c.live_at-live.result c.live_at-live.ensures c.write_at.ensures c.law_idle.ensures
