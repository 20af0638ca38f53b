use Rattle.bbm_roots.proofs.Common.{◌≡◌, ◌∙◌, ap, sym, refl, Bool, ◌&&◌, ◌||◌, not, nat_eq, List, [], ◌∷◌, false, true}
use Rattle.bbm_roots.proofs.Common.{Heading, Event, conflict_in, IsCalm, readings_after, has_reading, has_tag, Stands}
use Rattle.bbm_roots.proofs.Common.{pes_of, Reg, RootValue, Reading, ℕ, missing_root, Patterns, kind_in_world}
use Rattle.bbm_roots.proofs.Common.{kind_of_reg, false≢true}
use Rattle.std.proofs.Common.{Ok, Err}
use Rattle.std.proofs.lemmas.Result.{err_from_is_err_and}
use Rattle.bbm_rules.proofs.Common.{if_so}
use Rattle.bbm_rules.specs.Rules.{asks_to_share}
use Rattle.bbm_roots.proofs.Changes.{same-kept}
use Rattle.bbm_roots.proofs.Conflicts.{calm-from}
use Rattle.bbm_roots.proofs.Fits.{space}
use Rattle.bbm_roots.proofs.Judge.{of_state}
use Rattle.bbm_roots.proofs.RegisterWrites.{write_elsewhere, write_missing}
use Rattle.bbm_roots.proofs.Settled.{held-after, no-clash, held-stays, calm-one, held-somewhere, marks-all, tag-listed}
use Rattle.bbm_roots.proofs.Taken.{write-judged, write-taken}
use Rattle.bbm_roots.proofs.roots.Roots.write_reg.Goals as goal

-- whether the register is none of the world, or the value asks to share
abbrev is_wrong : Heading → Reg → ℕ → Bool
is_wrong heading reg value = not (kind_in_world heading.world (kind_of_reg reg)) || asks_to_share heading Patterns [] value

pub returns-then-is_wrong_write-clause-judged : goal.returns-then-is_wrong_write-clause-judged
returns-then-is_wrong_write-clause-judged c = λ heading h stands told.
    let laws = c.laws_below.ensures heading in
    write_elsewhere heading laws (laws.proper stands.proper) h stands.kept c.args.pe c.args.reg c.args.value 0
    (ap (λ (g : Heading). if_so (is_wrong g c.args.reg c.args.value) 0) (sym stands.header)
    ∙ ap (λ (b : Bool). if_so b 0) (sym c.is_wrong_write.ensures ∙ c.if-is_wrong_write.true))

pub returns-in_err-root-clause-judged : goal.returns-in_err-root-clause-judged
returns-in_err-root-clause-judged c = λ heading h stands told.
    let laws = c.laws_below.ensures heading in
    let m = c.in_err-root.ensures.missing in
    let p = err_from_is_err_and c.from_residual.result c.from_residual.ensures.1 in
    rw (p.1, p.2, m.1)
    (write_missing heading laws (laws.proper stands.proper) h stands.kept c.args.pe c.args.reg c.args.value
    (ap (λ (g : Heading). if_so (is_wrong g c.args.reg c.args.value) 0) (sym stands.header)
    ∙ ap (λ (b : Bool). if_so b 0) (sym c.is_wrong_write.ensures ∙ c.if-is_wrong_write.false)) m.0
    (ap (missing_root heading h c.args.reg c.args.value) (sym told) ∙ m.2 heading h stands))

pub shortcut-requires : goal.shortcut-requires
shortcut-requires c = of_state c.requires.2 c.requires.3

pub put-requires-clause-known : goal.put-requires-clause-known
put-requires-clause-known c = of_state c.requires.2 c.requires.3

-- no standing is added where readings don't go by standings
none-added : {T : Type 0} (b : Bool) → b ≡ false → b ≡ true → T
none-added b none is = absurd (false≢true (sym none ∙ is))

pub put-requires-clause-room : goal.put-requires-clause-room
put-requires-clause-room c =
    let settled = c.shortcut.ensures.held c.in-Held.is in
    (settled.room, none-added c.args.self.now.registers.in_order settled.by_values)

pub returns-in-Held-clause-taken : goal.returns-in-Held-clause-taken
returns-in-Held-clause-taken c =
    let old = c.args.self.now in
    let pe = c.args.pe in
    let known = of_state c.requires.2 c.requires.3 in
    let load : RootValue = record { number = c.tag_number-number.result; root = c.in_ok-root.root } in
    let settled = c.shortcut.ensures.held c.in-Held.is in
    let seen = readings_after old.registers pe c.args.reg load in
    write-taken c.laws_below.ensures old pe c.args.reg c.args.value c.args.null _ _ seen known
    (sym c.is_wrong_write.ensures ∙ c.if-is_wrong_write.false)
    c.tag_number-number.ensures c.in_ok-root.ensures.named c.in_ok-root.ensures.found refl _
    (record {
      loads = c.put.ensures;
      pendings = λ q b g p.
          let none = settled.quiet q b g p in none ∙ sym (ap (λ w. w && not (nat_eq p pe && has_tag g seen)) none);
      roots = record { header = refl; declared = refl; names = refl; locks = refl };
    })
    (λ heading h stands. held-stays old.holds pe seen
    (held-after old pe c.args.reg load heading h stands known settled.by_values settled.held))
    (λ heading h stands.
    let held = held-after old pe c.args.reg load heading h stands known settled.by_values settled.held in
    (no-clash old.holds seen (λ g r k. (pe, held g r k)) (pes_of old), settled.room))

pub returns-in-Held-clause-judged : goal.returns-in-Held-clause-judged
returns-in-Held-clause-judged c = λ heading h stands told.
    let old = c.args.self.now in
    let pe = c.args.pe in
    let known = of_state c.requires.2 c.requires.3 in
    let load : RootValue = record { number = c.tag_number-number.result; root = c.in_ok-root.root } in
    let settled = c.shortcut.ensures.held c.in-Held.is in
    let seen = readings_after old.registers pe c.args.reg load in
    let held = held-after old pe c.args.reg load heading h stands known settled.by_values settled.held in
    write-judged c.laws_below.ensures old pe c.args.reg c.args.value c.args.null _ _ seen known
    (sym c.is_wrong_write.ensures ∙ c.if-is_wrong_write.false)
    c.tag_number-number.ensures c.in_ok-root.ensures.named c.in_ok-root.ensures.found refl heading h stands told
    (Ok tt) (no-clash old.holds seen (λ g r k. (pe, held g r k)) (pes_of old), settled.room)

pub take-requires-clause-known : goal.take-requires-clause-known
take-requires-clause-known c = of_state c.requires.2 c.requires.3

pub take-requires-clause-room : goal.take-requires-clause-room
take-requires-clause-room c =
    let shared = c.shortcut.ensures.shared c.in-Shared.reading c.in-Shared.is in
    (shared.room, none-added c.args.self.now.registers.in_order shared.by_values)

pub take-requires-clause-listed : goal.take-requires-clause-listed
take-requires-clause-listed c =
    let reading = c.in-Shared.reading in
    tag-listed c.args.self.now c.args.pe c.args.reg _ reading (c.shortcut.ensures.shared reading c.in-Shared.is)

pub returns-in-Shared-clause-taken : goal.returns-in-Shared-clause-taken
returns-in-Shared-clause-taken c =
    let old = c.args.self.now in
    let new = c.take.new.self in
    let pe = c.args.pe in
    let known = of_state c.requires.2 c.requires.3 in
    let load : RootValue = record { number = c.tag_number-number.result; root = c.in_ok-root.root } in
    let reading = c.in-Shared.reading in
    let shared = c.shortcut.ensures.shared reading c.in-Shared.is in
    let seen = readings_after old.registers pe c.args.reg load in
    let told = c.take.ensures.written in
    write-taken c.laws_below.ensures old pe c.args.reg c.args.value c.args.null _ _ seen known
    (sym c.is_wrong_write.ensures ∙ c.if-is_wrong_write.false)
    c.tag_number-number.ensures c.in_ok-root.ensures.named c.in_ok-root.ensures.found refl new
    (record {
      loads = told.loads;
      pendings = λ q b g p.
          told.pendings q b g p
          ∙ ap (λ w. w && not (nat_eq p pe && has_tag g (reading ∷ []))) (shared.quiet q b g p)
          ∙ sym (ap (λ w. w && not (nat_eq p pe && has_tag g seen)) (shared.quiet q b g p));
      roots = told.roots;
    })
    (λ heading h stands. marks-all old pe c.args.reg load reading shared heading h stands known new
    (c.take.ensures.marked (calm-one old pe c.args.reg load reading shared)))
    (λ heading h stands. (
      no-clash old.holds seen (held-somewhere old pe c.args.reg load reading shared heading h stands known) (pes_of old),
      shared.room,
    ))

pub returns-in-Shared-clause-judged : goal.returns-in-Shared-clause-judged
returns-in-Shared-clause-judged c = λ heading h stands told.
    let old = c.args.self.now in
    let pe = c.args.pe in
    let known = of_state c.requires.2 c.requires.3 in
    let load : RootValue = record { number = c.tag_number-number.result; root = c.in_ok-root.root } in
    let reading = c.in-Shared.reading in
    let shared = c.shortcut.ensures.shared reading c.in-Shared.is in
    let seen = readings_after old.registers pe c.args.reg load in
    write-judged c.laws_below.ensures old pe c.args.reg c.args.value c.args.null _ _ seen known
    (sym c.is_wrong_write.ensures ∙ c.if-is_wrong_write.false)
    c.tag_number-number.ensures c.in_ok-root.ensures.named c.in_ok-root.ensures.found refl heading h stands told
    (Ok tt) (
      no-clash old.holds seen (held-somewhere old pe c.args.reg load reading shared heading h stands known) (pes_of old),
      shared.room,
    )

pub readings_with-requires : goal.readings_with-requires
readings_with-requires c = record { known = of_state c.requires.2 c.requires.3 }

pub judge-requires : goal.judge-requires
judge-requires c = of_state c.requires.2 c.requires.3

pub returns-in_err-judge-clause-judged : goal.returns-in_err-judge-clause-judged
returns-in_err-judge-clause-judged c = λ heading h stands told.
    let p = err_from_is_err_and c.from_residual-in_err-judge.result c.from_residual-in_err-judge.ensures.1 in
    rw (p.1, p.2) (write-judged c.laws_below.ensures c.args.self.now c.args.pe c.args.reg c.args.value c.args.null _ _
    c.deref.result.now (of_state c.requires.2 c.requires.3) (sym c.is_wrong_write.ensures ∙ c.if-is_wrong_write.false)
    c.tag_number-number.ensures c.in_ok-root.ensures.named c.in_ok-root.ensures.found
    (c.deref.ensures ∙ c.in-Ok.ensures.after) heading h stands told (Err c.in_err-judge.field-0.0)
    c.in_err-judge.ensures)

pub take-requires-2-clause-known : goal.take-requires-2-clause-known
take-requires-2-clause-known c = of_state c.requires.2 c.requires.3

pub take-requires-2-clause-room : goal.take-requires-2-clause-room
take-requires-2-clause-room c =
    let heading = c.requires.0 in
    space c.args.self.now heading (c.laws_below.ensures heading) c.requires.1 c.requires.2 c.args.pe c.requires.3 c.args.reg
    c.in_ok-judge.ensures.1 c.readings_with.ensures.fits

pub returns-clause-taken : goal.returns-clause-taken
returns-clause-taken c =
    let old = c.args.self.now in
    let pe = c.args.pe in
    let seen = c.deref-3.result.now in
    let told = c.take-2.ensures.written in
    let same : (x : Reading) → conflict_in old.holds (pes_of old) seen x ≡ conflict_in old.holds (pes_of old) c.deref.result.now x =
    λ x. ap (λ (xs : List Reading). conflict_in old.holds (pes_of old) xs x) (c.deref-3.ensures ∙ sym c.deref.ensures) in
    let clear : (x : Reading) → conflict_in old.holds (pes_of old) seen x ≡ false =
    λ x. same x ∙ c.in_ok-judge.ensures.0 x in
    let calm : (heading : Heading) (h : List Event) → Stands old heading h → IsCalm c.make_room.new.holds seen =
    λ heading h stands.
    let before = calm-from old.holds heading.pes seen stands.inside
    (λ x. ap (λ (n : ℕ). conflict_in old.holds n seen x) (sym stands.pes) ∙ clear x) in
    record {
      others = λ g r other. let o = before.others g r other in (o.0, λ p. c.in-Ok-make_room.ensures.same false g r p ∙ o.1 p);
      none_left = λ g r p read. c.in-Ok-make_room.ensures.same true g r p ∙ before.none_left g r p read;
    } in
    write-taken c.laws_below.ensures old pe c.args.reg c.args.value c.args.null _ _ seen
    (of_state c.requires.2 c.requires.3) (sym c.is_wrong_write.ensures ∙ c.if-is_wrong_write.false)
    c.tag_number-number.ensures c.in_ok-root.ensures.named c.in_ok-root.ensures.found (c.deref-3.ensures ∙ c.in-Ok.ensures.after)
    c.take-2.new.self
    (record {
      loads = told.loads;
      pendings = told.pendings;
      roots = record {
        header = told.roots.header;
        declared = told.roots.declared;
        names = told.roots.names;
        locks = told.roots.locks;
      };
    })
    (λ heading h stands.
    let marks = c.take-2.ensures.marked (calm heading h stands) in
    record {
      held = λ g r p. marks.held g r p
          ∙ ap (λ (b : Bool). b || (nat_eq p pe && has_reading g r seen)) (c.in-Ok-make_room.ensures.same false g r p);
      left = λ g r p. marks.left g r p ∙ c.in-Ok-make_room.ensures.same true g r p;
    })
    (λ heading h stands. (clear, c.in_ok-judge.ensures.1))

pub returns-clause-judged : goal.returns-clause-judged
returns-clause-judged c = λ heading h stands told.
    write-judged c.laws_below.ensures c.args.self.now c.args.pe c.args.reg c.args.value c.args.null _ _ c.deref.result.now
    (of_state c.requires.2 c.requires.3) (sym c.is_wrong_write.ensures ∙ c.if-is_wrong_write.false)
    c.tag_number-number.ensures c.in_ok-root.ensures.named c.in_ok-root.ensures.found
    (c.deref.ensures ∙ c.in-Ok.ensures.after) heading h stands told (Ok tt) c.in_ok-judge.ensures

pub returns-in-Err-make_room-clause-kept : goal.returns-in-Err-make_room-clause-kept
returns-in-Err-make_room-clause-kept c = same-kept c.args.self.now _ refl refl refl refl refl refl
    c.make_room.ensures.same
