use Rattle.bbm_replay.proofs.Common.{marks_at, value_at, MayAdmit}
use Rattle.bbm_rules.proofs.Common.{◌≡◌, None, Some, sym, ◌∙◌, core_of}
use Rattle.bbm_lemmas.proofs.Words.{none_is}
use Rattle.bbm_replay.proofs.Inside.{admitted_invalid, locked, taken, unlocked}
use Rattle.bbm_replay.proofs.Unbroken.{breaks_unbroken, may_admit_unbroken}
use Rattle.bbm_replay.proofs.parts.ReplayState.write_inside.Goals as goal

pub returns-in-Some : goal.returns-in-Some
returns-in-Some c =
    locked c.rules.ensures c.requires.at c.get.ensures.value c.without_lock.ensures c.in-Some.at c.in-Some.is

pub write_unbroken-requires-clause-unlocked : goal.write_unbroken-requires-clause-unlocked
write_unbroken-requires-clause-unlocked c =
    unlocked c.rules.ensures c.requires.at c.get.ensures.value c.without_lock.ensures c.in_default.is

pub write_unbroken-requires-then-is_some-clause-unlocked :
    goal.write_unbroken-requires-then-is_some-clause-unlocked
write_unbroken-requires-then-is_some-clause-unlocked c =
    unlocked c.rules.ensures c.requires.at c.get.ensures.value c.without_lock.ensures c.in_default.is

pub returns-else-is_some : goal.returns-else-is_some
returns-else-is_some c =
    let self = c.args.self.now in
    let w = c.args.write.now in
    let place = w.position.now.place in
    let live = c.in-Some-live_at.live in
    let new = c.core-new.result in
    let unbroken : marks_at self.map place ≡ None = c.requires.unbroken in
    let invalid : new ≡ None = none_is new (sym c.is_some.ensures ∙ c.if-is_some.false) in
    let live_is : Some live ≡ core_of w.path.now.kind w.path.now.level (value_at self.map place)
    = sym c.in-Some-live_at.is ∙ c.live_at.ensures in
    let m : MayAdmit self w.pe place w.value w.path.now (Some live) new = may_admit_unbroken c.requires.at
    (unlocked c.rules.ensures c.requires.at c.get.ensures.value c.without_lock.ensures c.in_default.is) unbroken
    (Some live) new live_is c.core-new.ensures.value in
    taken c.laws.ensures c.rules.ensures m c.law_others.ensures self
    (admitted_invalid c.laws.ensures c.rules.ensures m invalid) c.break_at.new.self (Some live) live_is
    (breaks_unbroken self.map c.break_at.new.self w.pe place w.value live new unbroken invalid c.break_at.ensures)
    c.law_idle.ensures
