-- A line that was taken from the bytes ahead, or by the function for any line.
use Rattle.bbm_session.proofs.Common.{FoldsLine, Taken}
use Rattle.bbm_rules.proofs.Common.{arith, ◌∙◌, ◌*◌, ◌+◌, ◌≤◌, ℕ, List, Ok, length, take, refl, subst}
use Rattle.std.proofs.Common.{length-take}
use Rattle.bbm_io.specs.Reading.{LiesWhole}
use Rattle.bbm_session.specs.declared.line.Piece.TheVariants as piece
use Rattle.bbm_session.proofs.Stages.{takes-shrinks, line-advances, shrinks-trans, going-on, going-end, going-stops}
use Rattle.bbm_session.proofs.reading.log_lines.Goals as goal

short : (count : ℕ) (hand : List ℕ) → LiesWhole count hand → length (take count hand) ≤ 200
short count hand whole = omega (arith, length-take count hand, whole.short, whole.within)

pub take_ahead-requires : goal.take_ahead-requires
take_ahead-requires g c =
    let begun = c.requires.begun in
    let going = c.lines.invariant.going begun.0 begun.1 begun.2 begun.3 in
    (begun.0, going.0, going.3)

pub take-requires-clause-line : goal.take-requires-clause-line
take-requires-clause-line g c = subst (LiesWhole c.in-Some.count) c.ahead.ensures c.in-Some.ensures.line

pub lines-preserved-in-Some : goal.lines-preserved-in-Some
lines-preserved-in-Some g c =
    let kept = c.lines.invariant in
    let header = c.args.header.now in
    let n = c.lines.number in
    let hand = g.S.Source.at_hand c.lines.log in
    let count = c.in-Some.count in
    let whole = subst (LiesWhole count) c.ahead.ensures c.in-Some.ensures.line in
    let within = short count hand whole in
    let few = c.in-Some.ensures.few in
    record {
      within = omega (arith, few);
      ready = (c.take.ensures.failed ∙ kept.ready.0, omega (arith, kept.ready.1, c.take.ensures.taken, whole.short));
      shrinks = shrinks-trans (201 * n) 201 (201 * (n + 1)) _ _ _ (omega arith) kept.shrinks (takes-shrinks piece.Line (take count hand) _ _ within c.take.ensures.took);
      sound = c.take.ensures.sound ∙ kept.sound;
      going = λ reader p inside stands.
          let going = kept.going reader p inside stands in
          let after = g.T.Taker.stands c.take_ahead.new.self reader header in
          let says = λ (l : List ℕ). FoldsLine reader after n going.0 (take count l) (Ok Taken) in
          let taken = subst says c.ahead.ensures (c.in-Some.ensures.takes reader going.0 going.3) in
          going-on reader (g.T.Taker.stands c.lines.taker reader header) after p n _ _ _ _ _ going
          (line-advances reader after n going.0 (Ok Taken) (take count hand) _ _ _ _ whole.no_newline within c.take.ensures.took taken c.take.ensures.sound);
    }

pub any_line-requires-clause-stands : goal.any_line-requires-clause-stands
any_line-requires-clause-stands g c =
    let begun = c.requires.begun in
    let going = c.lines.invariant.going begun.0 begun.1 begun.2 begun.3 in
    (begun.0, going.0, going.2, c.in_default.ensures.untaken refl begun.0 going.0 going.3)

pub lines-preserved : goal.lines-preserved
lines-preserved g c =
    let kept = c.lines.invariant in
    let header = c.args.header.now in
    let begun = c.requires.begun in
    let untaken = c.in_default.ensures.untaken refl in
    let first = kept.going begun.0 begun.1 begun.2 begun.3 in
    let advanced = rw c.in-Some-Taken.field-0-is at c.in-Some-Taken.ensures.advances begun.0 first.0 first.2 (untaken begun.0 first.0 first.3) in
    let few = c.in-Some-Taken.ensures.few cc in
    record {
      within = omega (arith, few);
      ready = c.in-Some-Taken.ensures.ready;
      shrinks = shrinks-trans (201 * c.lines.number) 201 (201 * (c.lines.number + 1)) _ _ _ (omega arith) kept.shrinks c.in-Some-Taken.ensures.shrinks;
      sound = advanced.4 ∙ kept.sound;
      going = λ reader p inside stands.
          let going = kept.going reader p inside stands in
          let taken = rw c.in-Some-Taken.field-0-is at c.in-Some-Taken.ensures.advances reader going.0 going.2 (untaken reader going.0 going.3) in
          going-on reader (g.T.Taker.stands c.lines.taker reader header) (g.T.Taker.stands c.any_line.new.taker reader header) p c.lines.number _ _ _ _ _ going taken;
    }

pub returns-in-Some-End-clause-shrinks : goal.returns-in-Some-End-clause-shrinks
returns-in-Some-End-clause-shrinks g c = shrinks-trans (201 * c.lines.number) 201 (201 * 4294967296) _ _ _ (omega (arith, c.lines.invariant.within)) c.lines.invariant.shrinks c.in-Some-End.ensures.shrinks

pub returns-in-None-clause-shrinks : goal.returns-in-None-clause-shrinks
returns-in-None-clause-shrinks g c = shrinks-trans (201 * c.lines.number) 201 (201 * 4294967296) _ _ _ (omega (arith, c.lines.invariant.within)) c.lines.invariant.shrinks c.in-None.ensures.shrinks

pub returns-in-Some-End-clause-reaches : goal.returns-in-Some-End-clause-reaches
returns-in-Some-End-clause-reaches g c = λ reader p inside stands.
    let kept = c.lines.invariant in
    let going = kept.going reader p inside stands in
    let untaken = c.in_default.ensures.untaken refl reader going.0 going.3 in
    let advanced = rw c.in-Some-End.field-0-is at c.in-Some-End.ensures.advances reader going.0 going.2 untaken in
    going-end reader (g.T.Taker.stands c.lines.taker reader c.args.header.now) (g.T.Taker.stands c.any_line.new.taker reader c.args.header.now) p c.lines.number _ _ _ _ _ _ going kept.sound advanced

pub returns-in-None-clause-reaches : goal.returns-in-None-clause-reaches
returns-in-None-clause-reaches g c = λ reader p inside stands.
    let kept = c.lines.invariant in
    let going = kept.going reader p inside stands in
    let untaken = c.in_default.ensures.untaken refl reader going.0 going.3 in
    let stopped = c.in-None.ensures.advances reader going.0 going.2 untaken in
    going-stops reader (g.T.Taker.stands c.lines.taker reader c.args.header.now) (g.T.Taker.stands c.any_line.new.taker reader c.args.header.now) p c.lines.number c.any_line.new.stop _ _ _ _ _ _ going kept.sound stopped
