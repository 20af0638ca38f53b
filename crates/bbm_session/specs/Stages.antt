-- What the contracts of the session's parts say: how what is said of the text that a source has left goes on from part
-- to part, for any reader over its lines. No public contract cites these words.
use Rattle.std.specs.Prelude.{◌≡◌, ℕ, ◌+◌, ◌*◌, ◌≤◌, false, true, Bool, ◌&&◌, List, [], ◌∷◌, ◌++◌, length, Option, Some}
use Rattle.std.specs.Prelude.{None, Result, Ok, Err}
use Rattle.bbm_io.specs.Faults.{Rose}
use Rattle.bbm_io.specs.Flow.{preceded, plain}
use Rattle.bbm_io.specs.Reading.{Reading}
use Rattle.bbm_regimes.specs.declared.regime.Which.{Which}
use Rattle.bbm_events.specs.Heading.{Heading}
use Rattle.bbm_events.specs.Lines.{header_of}
use Rattle.bbm_events.specs.declared.event.Event.{Event as EventOf}
use Rattle.bbm_events.specs.declared.event.Item.{Item}
use Rattle.bbm_events.specs.declared.event.Item.TheVariants as item
use Rattle.bbm_events.specs.declared.malformed.Malformed.{Malformed as Cause}
use Rattle.bbm_rules.specs.declared.verdict.Verdict.{Verdict}
use Rattle.bbm_rules.specs.declared.verdict.Verdict.TheVariants.{Refused, Malformed, Limit}
use Rattle.bbm_rules.specs.Answers.{MayTake}
use Rattle.bbm_rules.specs.Broken.{Breach}
use Rattle.bbm_rules.specs.Fold.{Halts, Passes, Turned, bytes_of, ending_at, lines_from}
use Rattle.bbm_rules.specs.Outcome.{AtEvents, AtEnd, Judged, Progress}
use Rattle.bbm_session.specs.Reader.{Reader, alone, IsInside, IsEnd}
use Rattle.bbm_texts.specs.declared.decision.Decision.{Decision}
use Rattle.bbm_session.specs.declared.stop.Stop.{Stop}
use Rattle.bbm_session.specs.declared.stop.Stop.TheVariants.{Decided, ReadFault, NoMemory}
use Rattle.bbm_log_grammar.specs.declared.turn.Turn.{Turn}
use Rattle.bbm_log_grammar.specs.declared.turn.Turn.TheVariants.{Taken, End}
use Rattle.bbm_texts.specs.Known.{EndsThere, Keeps, KnowsDecided, KnowsThat}

-- What a source had left begins with what was taken of it, at most so many bytes, and the rest is left now.
abbrev pub Shrinks : ℕ → Option (List ℕ) → Option (List ℕ) → Type 0
Shrinks most old new = (taken : List ℕ) × (old ≡ preceded taken new) × (length taken ≤ most)

-- whether no byte of these lines is a newline
abbrev pub plain_lines : List (List ℕ) → Bool
plain_lines [] = true
plain_lines (line ∷ lines) = plain line && plain_lines lines

-- Whole lines stand before the rest of some bytes, from one line number on to another, and none of them halts.
pub record Passed {P V : Type 0} (reader : Reader P V) (from : ℕ) (p : P) (bytes : List ℕ) (to : ℕ) (p' : P)
    (rest : List ℕ) : Type 0 where
  pub lines : List (List ℕ)
  pub clean : plain_lines lines ≡ true
  pub is : bytes ≡ bytes_of lines rest
  pub count : to ≡ from + length lines
  pub read : lines_from reader.lines from p lines ≡ Some p'

-- Whole lines were read of what was left, from one line number on to another, and none of them halts.
abbrev pub Continues : {P V : Type 0} → Reader P V → ℕ → P → Option (List ℕ) → ℕ → P → Option (List ℕ) → Type 0
Continues reader n p None n' p' now = Unit {0}
Continues reader n p (Some bytes) n' p' None = ⊥
Continues reader n p (Some bytes) n' p' (Some rest) = Passed reader n p bytes n' p' rest

-- Some bytes were read up to a call that failed: whole lines, of which none halts, and of the next one at most 200
-- bytes.
pub record Broke {P V : Type 0} (reader : Reader P V) (n : ℕ) (p : P) (bytes rest : List ℕ) : Type 0 where
  pub at : ℕ
  pub reached : P
  pub piece : List ℕ
  pub passed : Passed reader n p bytes at reached (piece ++ rest)
  pub clean : plain piece ≡ true
  pub short : length piece ≤ 200

-- Some bytes were read up to a line for which there was no memory: whole lines before it, of which none halts, and that
-- line.
pub record Starved {P V : Type 0} (reader : Reader P V) (n : ℕ) (p : P) (bytes rest : List ℕ) : Type 0 where
  pub at : ℕ
  pub reached : P
  pub line : List ℕ
  pub passed : Passed reader n p bytes at reached (line ++ 10 ∷ rest)
  pub clean : plain line ≡ true
  pub short : length line ≤ 200
  pub needs : reader.needs at reached line ≡ true

-- the same of what a source had left, where it tells that
abbrev pub Breaks : {P V : Type 0} → Reader P V → ℕ → P → Option (List ℕ) → Option (List ℕ) → Type 0
Breaks reader n p None now = Unit {0}
Breaks reader n p (Some bytes) None = ⊥
Breaks reader n p (Some bytes) (Some rest) = Broke reader n p bytes rest

abbrev pub Starves : {P V : Type 0} → Reader P V → ℕ → P → Option (List ℕ) → Option (List ℕ) → Type 0
Starves reader n p None now = Unit {0}
Starves reader n p (Some bytes) None = ⊥
Starves reader n p (Some bytes) (Some rest) = Starved reader n p bytes rest

-- This is said of what was left, and what is left now stays unread.
abbrev pub Concludes : {P V : Type 0} → Reader P V → ℕ → P → Option (List ℕ) → V → Option (List ℕ) → Type 0
Concludes reader n p None v now = Unit {0}
Concludes reader n p (Some bytes) v None = ⊥
Concludes reader n p (Some bytes) v (Some rest) =
    ((ending_at reader.lines n p bytes).says ≡ v) × ((ending_at reader.lines n p bytes).unread ≡ rest)

-- Why reading stopped, after lines that were read up to q where a verdict is known, and what was read then. A read
-- fault comes only where the count of faults rose, and where it doesn't come the count stays.
abbrev pub Stops : {P V : Type 0} → Reader P V → ℕ → P → Option (List ℕ) → Stop → P → Option (List ℕ) → ℕ → ℕ → Type 0
Stops reader n p old (Decided decision) q new faults faults' =
    Concludes reader n p old (reader.stopped q decision) new × (faults' ≡ faults)
Stops reader n p old ReadFault q new faults faults' = Breaks reader n p old new × Rose faults faults'
Stops reader n p old NoMemory q new faults faults' = Starves reader n p old new × (faults' ≡ faults)

-- Where an event is refused, a line decides so, behind the lines before it, which were read up to p.
abbrev pub RefusedOn : {P V : Type 0} → Reader P V → ℕ → P → Decision → Verdict → Type 0
RefusedOn reader n p decision (Refused line rule at label) =
    (l : List ℕ) × (reader.lines.line n p l ≡ Halts (reader.stopped p decision))
RefusedOn reader n p decision _ = Unit {0}

-- What is known where reading stopped for this cause, at line number n, behind lines that were read up to p.
abbrev pub KnowsWhy : {P V : Type 0} → Reader P V → (P → ℕ → Type 0) → ℕ → P → Stop → Type 0
KnowsWhy reader stands n p (Decided decision) =
    KnowsThat (stands p n) decision.verdict × RefusedOn reader n p decision decision.verdict
KnowsWhy reader stands n p _ = Unit {0}

-- a cause for which nothing is said behind the line of the verdict, if there is one
abbrev pub IsBrief : Stop → Type 0
IsBrief (Decided decision) = EndsThere decision.verdict
IsBrief _ = Unit {0}

-- The reader of lines can read line number n: each line before took at most 201 bytes.
abbrev pub Ready : Reading → ℕ → Type 0
Ready lines n = (lines.failed ≡ false) × (lines.taken + 201 ≤ 201 * n)

-- What was made of a header: it is that of its line, or why that is none.
abbrev pub ReadsHeader : Result Heading Stop → Result Heading Cause → Type 0
ReadsHeader (Ok heading) read = read ≡ Ok heading
ReadsHeader (Err (Decided decision)) read =
    (cause : Cause) × (read ≡ Err cause) × (decision ≡ alone (Malformed 1 cause))
ReadsHeader (Err _) read = ⊥

-- Line 1 was read of what was left, and it has this heading.
pub record HeaderLine (heading : Heading) (was now : Option (List ℕ)) : Type 0 where
  pub line : List ℕ
  pub header : header_of line ≡ Ok heading
  pub clean : plain line ≡ true
  pub short : length line ≤ 200
  pub taken : was ≡ preceded (line ++ 10 ∷ []) now

-- What reading line 1 says.
abbrev pub Starts : {P V : Type 0} → Reader P V → P → Result Heading Stop → Option (List ℕ) → Option (List ℕ) → ℕ → ℕ
    → Type 0
Starts reader start (Ok heading) was now faults faults' = HeaderLine heading was now × (faults' ≡ faults)
Starts reader start (Err stop) was now faults faults' = Stops reader 1 start was stop start now faults faults'

-- Some lines were taken, up to line number n.
abbrev pub MayTakeLine : {P V : Type 0} → (Reader P V → Heading → P → ℕ → Type 0) → Heading → ℕ → Type 0
MayTakeLine {P} {V} stands heading n = (reader : Reader P V) × (p : P) × stands reader heading p n

-- the same, between the header and the end
abbrev pub MayGoOn : {P V : Type 0} → (Reader P V → Heading → P → ℕ → Type 0) → Heading → ℕ → Type 0
MayGoOn {P} {V} stands heading n = (reader : Reader P V) × (p : P) × IsInside reader p × stands reader heading p n

module _ {P V : Type 0} (reader : Reader P V) (stands : P → ℕ → Type 0) where
  -- What line n says, where the lines before it were taken up to p, and what was taken then: the line too, or the end
  -- came, or reading stops. There can be no memory only for a line that needs it.
  abbrev pub FoldsLine : ℕ → P → List ℕ → Result Turn Stop → Type 0
  FoldsLine n p line (Ok Taken) =
      (q : P) × (reader.lines.line n p line ≡ Passes q) × IsInside reader q × stands q (n + 1)
  FoldsLine n p line (Ok End) = (q : P) × (reader.lines.line n p line ≡ Passes q) × IsEnd reader p q × stands p n
  FoldsLine n p line (Err (Decided decision)) =
      (reader.lines.line n p line ≡ Halts (reader.stopped p decision)) × KnowsThat (stands p n) decision.verdict
  FoldsLine n p line (Err ReadFault) = ⊥
  FoldsLine n p line (Err NoMemory) = reader.needs n p line ≡ true

  -- the same of the next line of what is left
  abbrev pub Advances : ℕ → P → Result Turn Stop → Option (List ℕ) → Option (List ℕ) → ℕ → ℕ → Type 0
  Advances n p (Ok Taken) was now faults faults' =
      (q : P) × Continues reader n p was (n + 1) q now × IsInside reader q × stands q (n + 1) × (faults' ≡ faults)
  Advances n p (Ok End) was now faults faults' =
      (q : P) × Continues reader n p was (n + 1) q now × IsEnd reader p q × stands p n × (faults' ≡ faults)
  Advances n p (Err stop) was now faults faults' =
      Stops reader n p was stop p now faults faults' × KnowsWhy reader stands n p stop

  -- the lines from line 2 on were taken up to line number n, and none of them halts
  abbrev pub Going : P → Option (List ℕ) → ℕ → Option (List ℕ) → Type 0
  Going p was n now = (q : P) × Continues reader 2 p was n q now × IsInside reader q × stands q n

  -- what reading all lines up to the end says, of what was left from line 2 on
  abbrev pub Reaches : P → Result ℕ Stop → Option (List ℕ) → Option (List ℕ) → ℕ → ℕ → Type 0
  Reaches p (Ok n) was now faults faults' =
      (q : P) × (end : P) × (m : ℕ) × Continues reader 2 p was n end now × IsEnd reader q end × stands q m
      × (faults' ≡ faults)
  Reaches p (Err stop) was now faults faults' =
      (q : P) × (m : ℕ) × Stops reader 2 p was stop q now faults faults' × KnowsWhy reader stands m q stop

  -- what reading to the end of the log says
  abbrev pub Ends : P → Result (Unit {0}) Stop → Option (List ℕ) → Option (List ℕ) → ℕ → ℕ → Type 0
  Ends p (Ok _) was now faults faults' =
      (q : P) × (m : ℕ) × Concludes reader 2 p was (reader.whole q) now × stands q m × (faults' ≡ faults)
  Ends p (Err stop) was now faults faults' =
      (q : P) × (m : ℕ) × Stops reader 2 p was stop q now faults faults' × KnowsWhy reader stands m q stop

-- What reading behind the end says, where the lines before the end were read up to p: nothing follows, or why not.
abbrev pub Closes : {P V : Type 0} → Reader P V → P → P → Result (Unit {0}) Stop → ℕ → Option (List ℕ) → Option (List ℕ)
    → ℕ → ℕ → Type 0
Closes reader p end (Ok _) n was now faults faults' =
    Concludes reader n end was (reader.whole p) now × (faults' ≡ faults)
Closes reader p end (Err stop) n was now faults faults' = Stops reader n end was stop p now faults faults'

-- The judging of events.

-- the same by why reading stopped
abbrev pub KnowsAt : (Heading → List EventOf → Type 0) → Heading → List EventOf → Stop → Type 0
KnowsAt stands heading h (Decided decision) = KnowsDecided stands heading h decision
KnowsAt stands heading h _ = Unit {0}

-- why reading stops at this event with this label that breaks this rule, or else reaches this limit of a history, or for
-- which there was no memory
abbrev pub StopsAt : Stop → ℕ → EventOf → Option (List ℕ) → Option Breach → Option Which → Type 0
StopsAt (Decided decision) n event label (Some breach) which =
    decision ≡ record { verdict = Refused n breach.rule breach.at label; refused = Some event }
StopsAt (Decided decision) n event label None (Some which) = decision ≡ alone (Limit n which)
StopsAt NoMemory n event label breach which = Unit {0}
StopsAt _ n event label breach which = ⊥

-- What was read of a line can be judged: an event of it may be taken.
abbrev pub MayJudge : (Heading → List EventOf → Type 0) → Result Item Cause → Type 0
MayJudge stands (Ok (item.Event event label)) = MayTake stands event
MayJudge stands _ = Unit {0}

-- what is decided behind these events
abbrev pub judged_after : List EventOf → Decision → Judged
judged_after h decision = record { verdict = decision.verdict; refused = decision.refused; log = h }

module _ (stands : Heading → List EventOf → Type 0) (heading : Heading) where
  -- What a line says, judged after a history, and what the checker stands for then: it took the event, or the end came,
  -- or reading stopped. There can be no memory only for an event, which is the first fact. No line after the header
  -- accepts a log.
  abbrev pub JudgesLine : List EventOf → Type 0 → Result Turn Stop → Turned Progress Judged → Type 0
  JudgesLine h wants (Ok Taken) turned =
      (longer : List EventOf) × (turned ≡ Passes (AtEvents heading longer)) × Keeps stands heading longer
      × (length longer ≡ length h + 1)
  JudgesLine h wants (Ok End) turned = (turned ≡ Passes (AtEnd h)) × Keeps stands heading h
  JudgesLine h wants (Err (Decided decision)) turned =
      (turned ≡ Halts (judged_after h decision)) × KnowsThat (Keeps stands heading h) decision.verdict
  JudgesLine h wants (Err ReadFault) turned = ⊥
  JudgesLine h wants (Err NoMemory) turned = wants
