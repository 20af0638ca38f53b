-- What the program's words ask for, and what it does for each: a log is judged, a run is followed, a log is judged by
-- its certificate, a generated log is written, or one is judged without being stored. Source: project's own choice.
use Rattle.std.specs.Prelude.{◌≡◌, ℕ, nat_le, Bool, true, false, List, [], ◌∷◌, Option, Some, None, option_map, codes}
use Rattle.std.specs.Prelude.{bytes_eq, if◌then◌else◌}
use Rattle.bbm_events.specs.Lines.{passing}
use Rattle.bbm_events.specs.Spelling.{decimal_value}
use Rattle.bbm_certificate.specs.CertificateReading as read
use Rattle.bbm_certificate.specs.CertificateReading.{CertificateSays, read_of}
use Rattle.bbm_follow.specs.Following as run
use Rattle.bbm_follow.specs.Following.{RunSays, run_of, run_text}
use Rattle.bbm_rules.specs.Claims.{Patterns}
use Rattle.bbm_rules.specs.Lists.{◌>>=◌}
use Rattle.bbm_rules.specs.declared.verdict.Verdict.{Verdict}
use Rattle.bbm_rules.specs.Outcome.{AtHeader, outcome_of, verdict_of_bytes}
use Rattle.bbm_session.specs.declared.command.Request.{Request}
use Rattle.bbm_session.specs.declared.command.Request.TheVariants.{Judge, Follow, Verify, Generate, Selftest}
use Rattle.bbm_texts.specs.declared.status.Status.{Status}
use Rattle.bbm_texts.specs.declared.status.Status.TheVariants as status
use Rattle.bbm_session.specs.Certificates.{CertifiedReadFor, CertifiedWants, read_status, read_text}
use Rattle.bbm_texts.specs.Generating.{gen_text, selftest_text}
use Rattle.bbm_session.specs.Run.{IsTextOf, IsSomeText, ReadAs, ReadTo, ReadToFault, Wants, command_of, judging_for}
use Rattle.bbm_session.specs.Run.{limits_of, or_else}
use Rattle.bbm_texts.specs.Statuses.{status_of}
use Rattle.bbm_session.specs.Runs.{RunReadFor, RunWants, run_status}

-- the request of one word that isn't a command
abbrev pub request_at : List ℕ → Option Request
request_at word =
    if bytes_eq word (codes "follow") then Some Follow
    else (if bytes_eq word (codes "verify") then Some Verify else None)

abbrev pub request_alone : List (List ℕ) → Option Request
request_alone (word ∷ []) = request_at word
request_alone _ = None

-- The number of events of a generated log: with its header and its end it has at most 2^32 - 1 lines.
abbrev pub event_count : List ℕ → Option ℕ
event_count text = passing (λ count. nat_le count 4294967293) (decimal_value text)

-- the words N and COUNT, both decimals, where N is below 2^64
abbrev pub log_asked : List ℕ → List ℕ → Option (ℕ × ℕ)
log_asked n_text count_text = do
  n ← decimal_value n_text
  count ← event_count count_text
  Some (n, count)

-- the numbers of a generated log behind this word
abbrev pub log_after : List ℕ → List (List ℕ) → Option (ℕ × ℕ)
log_after first (word ∷ n ∷ count ∷ []) = if bytes_eq word first then log_asked n count else None
log_after first _ = None

-- the request of `gen N COUNT`
abbrev pub gen_of : List (List ℕ) → Option Request
gen_of words = option_map (λ log. Generate log.0 log.1) (log_after (codes "gen") words)

-- the request of `selftest N COUNT`
abbrev pub selftest_of : List (List ℕ) → Option Request
selftest_of words = option_map (λ log. Selftest log.0 log.1) (log_after (codes "selftest") words)

-- What the words ask for, None where they ask for nothing: a command, to follow a run, to judge a log by its
-- certificate, to write a generated log, or to judge one.
abbrev pub request_of : List (List ℕ) → Option Request
request_of words = or_else (option_map Judge (command_of words))
    (or_else (request_alone words) (or_else (gen_of words) (selftest_of words)))

-- The words ask for this request, and the source has these bytes left.
pub record Asked (words : List (List ℕ)) (left : Option (List ℕ)) (request : Request) (bytes : List ℕ) : Type 0 where
  pub asks : request_of words ≡ Some request
  pub has : left ≡ Some bytes

-- whether a request reads its input
abbrev pub reads_input : Request → Bool
reads_input (Generate n count) = false
reads_input (Selftest n count) = false
reads_input _ = true

-- the status for these bytes
abbrev pub status_for : Request → List ℕ → Status
status_for (Judge command) bytes = status_of (verdict_of_bytes Patterns (limits_of command) bytes)
status_for Follow bytes = run_status (run_of bytes).says
status_for Verify bytes = read_status (read_of bytes).says
status_for (Generate n count) bytes = status.Accepted
status_for (Selftest n count) bytes = status.Accepted

-- the text for these bytes
abbrev pub IsTextFor : Request → List ℕ → List ℕ → Type 0
IsTextFor (Judge command) bytes text = IsTextOf command bytes text
IsTextFor Follow bytes text = text ≡ run_text (run_of bytes).says
IsTextFor Verify bytes text = text ≡ read_text (read_of bytes).says
IsTextFor (Generate n count) bytes text = text ≡ gen_text n count
IsTextFor (Selftest n count) bytes text = text ≡ selftest_text n count

-- a text with this status, where it isn't told what was read
abbrev pub IsSomeTextFor : Request → Status → List ℕ → Type 0
IsSomeTextFor (Judge command) tells text =
    (verdict : Verdict) × (tells ≡ status_of verdict) × IsSomeText command verdict text
IsSomeTextFor Follow tells text = (says : RunSays) × (tells ≡ run_status says) × (text ≡ run_text says)
IsSomeTextFor Verify tells text = (says : CertificateSays) × (tells ≡ read_status says) × (text ≡ read_text says)
IsSomeTextFor (Generate n count) tells text = (tells ≡ status.Accepted) × (text ≡ gen_text n count)
IsSomeTextFor (Selftest n count) tells text = (tells ≡ status.Accepted) × (text ≡ selftest_text n count)

-- the bytes that are left unread of these
abbrev pub unread_for : Request → List ℕ → List ℕ
unread_for (Judge command) bytes = (outcome_of Patterns (limits_of command) bytes).unread
unread_for Follow bytes = (run_of bytes).unread
unread_for Verify bytes = (read_of bytes).unread
unread_for (Generate n count) bytes = bytes
unread_for (Selftest n count) bytes = bytes

-- What is left of these bytes, where all before was read for what is said of them.
abbrev pub ReadForAll : Request → List ℕ → Option (List ℕ) → Type 0
ReadForAll (Judge command) bytes left = ReadTo bytes (verdict_of_bytes Patterns (limits_of command) bytes) left
ReadForAll Follow bytes left = ReadAs (RunReadFor (run_of bytes).says) bytes left
ReadForAll Verify bytes left = ReadAs (CertifiedReadFor (read_of bytes).says) bytes left
ReadForAll (Generate n count) bytes left = left ≡ Some bytes
ReadForAll (Selftest n count) bytes left = left ≡ Some bytes

-- a read failed, which can't be where nothing is read
abbrev pub FaultAt : Request → List ℕ → Option (List ℕ) → Type 0
FaultAt (Judge command) bytes left = ReadToFault (judging_for command) AtHeader bytes left
FaultAt Follow bytes left = ReadToFault run.following run.AtHeader bytes left
FaultAt Verify bytes left = ReadToFault read.certifying read.AtHeader bytes left
FaultAt (Generate n count) bytes left = ⊥
FaultAt (Selftest n count) bytes left = ⊥

-- there was no memory; to write a generated log needs none, and a self-test has read nothing then
abbrev pub WantAt : Request → List ℕ → Option (List ℕ) → Type 0
WantAt (Judge command) bytes left = Wants command bytes left
WantAt Follow bytes left = RunWants bytes left
WantAt Verify bytes left = CertifiedWants bytes left
WantAt (Generate n count) bytes left = ⊥
WantAt (Selftest n count) bytes left = left ≡ Some bytes
