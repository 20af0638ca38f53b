use Rattle.bbm_session.proofs.Common.{ReadsHeader}
use Rattle.bbm_rules.proofs.Common.{◌≡◌, ap, ◌∙◌, subst}
use Rattle.bbm_events.specs.Lines.{header_of}
use Rattle.bbm_session.proofs.Stages.{header-starts, header-rest, header-long, header-fault}
use Rattle.bbm_session.proofs.reading.header_line.Goals as goal

pub returns-in-Line-clause-starts : goal.returns-in-Line-clause-starts
returns-in-Line-clause-starts g c = λ reader start begun is.
    let line = c.next_piece.new.lines.bytes in
    let read : c.read_header.result ≡ header_of line = c.read_header.ensures.header ∙ ap header_of c.bytes.ensures.bytes in
    let reads = subst (λ r. ReadsHeader c.judge_header.result r) read c.judge_header.ensures.judges in
    header-starts reader start begun is c.judge_header.result line _ _ _ _ c.in-Line.ensures.plain c.in-Line.ensures.within c.in-Line.ensures.takes reads c.in-Line.ensures.counted

pub returns-in-Rest-clause-starts : goal.returns-in-Rest-clause-starts
returns-in-Rest-clause-starts g c = λ reader start begun is.
    rw c.malformed.ensures (header-rest reader start begun is c.next_piece.new.lines.bytes _ _ _ _ c.in-Rest.ensures.plain c.in-Rest.ensures.within c.in-Rest.ensures.takes c.in-Rest.ensures.counted)

pub returns-in-TooLong-clause-starts : goal.returns-in-TooLong-clause-starts
returns-in-TooLong-clause-starts g c = λ reader start begun is.
    rw c.decided.ensures (header-long reader start begun is c.next_piece.new.lines.bytes _ _ _ _ c.in-TooLong.ensures.plain c.in-TooLong.ensures.takes c.in-TooLong.ensures.counted)

pub returns-in-ReadFault-clause-starts : goal.returns-in-ReadFault-clause-starts
returns-in-ReadFault-clause-starts g c = λ reader start begun is.
    header-fault reader start c.next_piece.new.lines.bytes _ _ _ _ c.in-ReadFault.ensures.plain c.in-ReadFault.ensures.within c.in-ReadFault.ensures.takes c.in-ReadFault.ensures.counted
