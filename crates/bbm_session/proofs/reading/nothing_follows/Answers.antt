use Rattle.bbm_rules.proofs.Common.{◌≡◌, length, nat_eq, true, false, sym, ap, ◌∙◌}
use Rattle.bbm_session.proofs.Stages.{line-closes, nothing-closes, more-closes, long-closes, fault-closes}
use Rattle.bbm_session.proofs.reading.nothing_follows.Goals as goal

pub returns-in-Line-clause-closes : goal.returns-in-Line-clause-closes
returns-in-Line-clause-closes g c = λ reader p end is.
    rw c.malformed.ensures (line-closes reader p end is c.args.number c.next_piece.new.lines.bytes _ _ _ _ c.in-Line.ensures.plain c.in-Line.ensures.within c.in-Line.ensures.takes c.in-Line.ensures.counted)

pub returns-then-is_empty-clause-closes : goal.returns-then-is_empty-clause-closes
returns-then-is_empty-clause-closes g c = λ reader p end is.
    let line = c.next_piece.new.lines.bytes in
    let empty : nat_eq (length line) 0 ≡ true = ap (λ x. nat_eq (length x) 0) (sym c.bytes.ensures.bytes) ∙ sym c.is_empty.ensures ∙ c.if-is_empty.true in
    nothing-closes reader p end is c.args.number line _ _ _ _ empty c.in-Rest.ensures.plain c.in-Rest.ensures.within c.in-Rest.ensures.takes c.in-Rest.ensures.counted

pub returns-else-is_empty-clause-closes : goal.returns-else-is_empty-clause-closes
returns-else-is_empty-clause-closes g c = λ reader p end is.
    let line = c.next_piece.new.lines.bytes in
    let more : nat_eq (length line) 0 ≡ false = ap (λ x. nat_eq (length x) 0) (sym c.bytes.ensures.bytes) ∙ sym c.is_empty.ensures ∙ c.if-is_empty.false in
    rw c.malformed-else-is_empty.ensures (more-closes reader p end is c.args.number line _ _ _ _ more c.in-Rest.ensures.plain c.in-Rest.ensures.within c.in-Rest.ensures.takes c.in-Rest.ensures.counted)

pub returns-in-TooLong-clause-closes : goal.returns-in-TooLong-clause-closes
returns-in-TooLong-clause-closes g c = λ reader p end is.
    rw c.malformed-in-TooLong.ensures (long-closes reader p end is c.args.number c.next_piece.new.lines.bytes _ _ _ _ c.in-TooLong.ensures.plain c.in-TooLong.ensures.takes c.in-TooLong.ensures.counted)

pub returns-in-ReadFault-clause-closes : goal.returns-in-ReadFault-clause-closes
returns-in-ReadFault-clause-closes g c = λ reader p end is.
    fault-closes reader p end is c.args.number c.next_piece.new.lines.bytes _ _ _ _ c.in-ReadFault.ensures.plain c.in-ReadFault.ensures.within c.in-ReadFault.ensures.takes c.in-ReadFault.ensures.counted
