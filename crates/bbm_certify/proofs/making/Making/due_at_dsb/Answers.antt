use Rattle.bbm_certify.proofs.Common.{Holding, notes_of, notes, IsNewest, AreDue, HasTaken, Adds, AreTaken}
use Rattle.bbm_rules.proofs.Common.{ℕ, ◌-◌, ◌<◌, List, length, reverse, take, ap, subst, sym, ◌∙◌, arith}
use Rattle.bbm_rules.proofs.Common.{length-reverse, Patterns, note, noted, Event, Dsb}
use Rattle.bbm_certify.specs.DueAt.{AreDue as ArePlaces}
use Rattle.bbm_certify.proofs.Finished.{due_here, newest_is}
use Rattle.bbm_certify.proofs.making.Making.due_at_dsb.Goals as goal
use Rattle.bbm_oracle_patterns.proofs.KeptNotes.{length_events}

pub add_tags-requires-clause-some : goal.add_tags-requires-clause-some
add_tags-requires-clause-some c =
    let some : 0 < length c.args.self.now.history.kept = c.requires.some in
    omega (arith, some, ap length c.events.ensures, length-reverse c.events.result.now, length_events c.args.self.now.history.kept)

pub add_tags-requires-clause-few : goal.add_tags-requires-clause-few
add_tags-requires-clause-few c =
    let few : length c.args.self.now.history.kept < 4294967296 = c.requires.few in
    omega (arith, few, ap length c.events.ensures, length-reverse c.events.result.now, length_events c.args.self.now.history.kept)

pub returns : goal.returns
returns c = λ h q dsb e_is taken.
    let heading = c.args.header.now in
    let m = c.args.self.now in
    let log = c.log-log.result.now in
    let known = c.known.ensures heading c.in_ranges.ensures in
    let now : HasTaken m heading h (Dsb q dsb) = subst (λ (e : Event). HasTaken m heading h e) e_is taken in
    let newest = note heading Patterns (noted heading Patterns h) (Dsb q dsb) in
    let is_newest : IsNewest newest c.args.event.now (length (take (length log - 1) log))
    = subst (λ (e : Event). IsNewest newest e (length (take (length log - 1) log))) (sym e_is)
    (newest_is heading known m h q dsb now log c.log-log.ensures) in
    subst (λ (e : Event). AreDue heading h e c.add_tags.new.due.items) (sym e_is)
    (due_here heading known m h q dsb now log c.log-log.ensures c.new-due.result.items c.add_places.new.due.items
    c.add_tags.new.due.items c.new-due.ensures.items
    (subst (λ (ps : List ℕ). Adds (ArePlaces m.history.heading m.history.trust (notes m.history) newest
    (notes_of (reverse (take (length log - 1) log))) ps) c.new-due.result.items c.add_places.new.due.items) c.deref.ensures.value
    (c.in_ok-add_places.ensures newest is_newest))
    (subst (λ (xs : List Holding). Adds (AreTaken heading h (Dsb q dsb) xs) c.add_places.new.due.items c.add_tags.new.due.items)
    c.deref-2.ensures.value
    (c.in_ok-add_tags.ensures (Dsb q dsb) h (c.events.ensures ∙ now.history.kept.events_are))))
