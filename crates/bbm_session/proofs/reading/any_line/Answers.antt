use Rattle.bbm_session.proofs.Common.{FoldsLine}
use Rattle.bbm_rules.proofs.Common.{subst, ℕ, List, ok_or}
use Rattle.bbm_session.proofs.Stages.{line-advances, rest-advances, long-advances, fault-advances}
use Rattle.bbm_session.proofs.reading.any_line.Goals as goal

pub take-requires : goal.take-requires
take-requires g c = (c.requires.stands.0, c.requires.stands.1, c.requires.stands.3)

pub returns-in-Line-clause-advances : goal.returns-in-Line-clause-advances
returns-in-Line-clause-advances g c = λ reader p inside stands.
    let n = c.args.number in
    let line = c.next_piece.new.lines.bytes in
    let after = g.T.Taker.stands c.take.new.self reader c.args.header.now in
    let turn = ok_or c.take.result c.take.new.stop in
    let taken = subst (λ (l : List ℕ). FoldsLine reader after n p l turn) c.bytes.ensures.bytes (c.take.ensures.takes reader p stands) in
    line-advances reader after n p turn line _ _ _ _ c.in-Line.ensures.plain c.in-Line.ensures.within c.in-Line.ensures.takes taken c.in-Line.ensures.counted

pub returns-in-Rest-clause-advances : goal.returns-in-Rest-clause-advances
returns-in-Rest-clause-advances g c = λ reader p inside stands.
    rw c.stop_malformed.ensures (rest-advances reader (g.T.Taker.stands c.args.taker.now reader c.args.header.now) c.args.number p c.next_piece.new.lines.bytes _ _ _ _ inside c.in-Rest.ensures.plain c.in-Rest.ensures.within c.in-Rest.ensures.takes c.in-Rest.ensures.counted)

pub returns-in-TooLong-clause-advances : goal.returns-in-TooLong-clause-advances
returns-in-TooLong-clause-advances g c = λ reader p inside stands.
    rw c.stop_limit.ensures (long-advances reader (g.T.Taker.stands c.args.taker.now reader c.args.header.now) c.args.number p c.next_piece.new.lines.bytes _ _ _ _ inside c.in-TooLong.ensures.plain c.in-TooLong.ensures.takes c.in-TooLong.ensures.counted)

pub returns-in-ReadFault-clause-advances : goal.returns-in-ReadFault-clause-advances
returns-in-ReadFault-clause-advances g c = λ reader p inside stands.
    fault-advances reader (g.T.Taker.stands c.args.taker.now reader c.args.header.now) c.args.number p c.next_piece.new.lines.bytes _ _ _ _ c.in-ReadFault.ensures.plain c.in-ReadFault.ensures.within c.in-ReadFault.ensures.takes c.in-ReadFault.ensures.counted
