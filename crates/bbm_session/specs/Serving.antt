-- What became of what was asked for, by what was read and written. No public contract cites these words.
use Rattle.std.specs.Prelude.{◌≡◌, ℕ, List, Option, Some, None, ◌⊎◌}
use Rattle.bbm_io.specs.Faults.{Rose}
use Rattle.bbm_events.specs.declared.claim.Claim.{Claim}
use Rattle.bbm_events.specs.declared.event.Event.{Event}
use Rattle.bbm_events.specs.Heading.{Heading}
use Rattle.bbm_follow.specs.Following as run
use Rattle.bbm_certificate.specs.CertificateReading as read
use Rattle.bbm_rules.specs.Fold.{text_of}
use Rattle.bbm_rules.specs.Outcome.{AtHeader, Judged}
use Rattle.bbm_rules.specs.Texts.{verdict_text}
use Rattle.bbm_report.specs.Further.{heading_in}
use Rattle.bbm_tlb_machine.specs.declared.step.Step.{Step}
use Rattle.bbm_texts.specs.declared.commands.Command.{Command}
use Rattle.bbm_session.specs.declared.command.Request.{Request}
use Rattle.bbm_session.specs.declared.command.Request.TheVariants.{Judge, Follow, Verify, Generate, Selftest}
use Rattle.bbm_texts.specs.declared.status.Status.{Status}
use Rattle.bbm_texts.specs.declared.status.Status.TheVariants as status
use Rattle.bbm_texts.specs.declared.decision.Decision.{Decision}
use Rattle.bbm_session.specs.declared.stop.Stop.{Stop}
use Rattle.bbm_session.specs.declared.stop.Stop.TheVariants.{Decided, ReadFault, NoMemory}
use Rattle.bbm_session.specs.Certificates.{read_status, read_text}
use Rattle.bbm_session.specs.Reader.{Reader}
use Rattle.bbm_session.specs.Readers.{reader_for, run_reader, certificate_reader}
use Rattle.bbm_texts.specs.Generating.{gen_text}
use Rattle.bbm_texts.specs.Says.{IsOutput, MayShowEvidence}
use Rattle.bbm_texts.specs.Statuses.{status_of}
use Rattle.bbm_session.specs.Runs.{run_status}
use Rattle.bbm_session.specs.Stages.{Breaks, Concludes, Starves}
use Rattle.bbm_texts.specs.Writing.{ReportsDecided, Silent, Tested, Wrote, WroteSome}

-- What became of the answer where reading stopped for this cause; what was decided has some text.
abbrev pub Reports : (Decision → List ℕ → Type 0) → Stop → Status → Option (List ℕ) → Option (List ℕ) → ℕ → ℕ → Type 0
Reports Text (Decided decision) result old new faults faults' =
    WroteSome (Text decision) (status_of decision.verdict) result old new faults faults'
Reports Text ReadFault result old new faults faults' = Silent status.ReadFault result old new faults faults'
Reports Text NoMemory result old new faults faults' = Silent status.NoMemory result old new faults faults'

-- the line of a verdict alone
abbrev pub IsLine : Decision → List ℕ → Type 0
IsLine decision text = text ≡ verdict_text decision.verdict

-- the heading of what is left, where that is told
abbrev pub Heads : Option (List ℕ) → Option Heading → Type 0
Heads None heading = Unit {0}
Heads (Some bytes) heading = heading_in (text_of bytes).lines ≡ heading

-- What a source has left and a sink holds before a call and after it, where they tell that, and how many reads and how
-- many writes have failed.
pub record Streams : Type 0 where
  pub left_before : Option (List ℕ)
  pub left_after : Option (List ℕ)
  pub read_faults_before : ℕ
  pub read_faults_after : ℕ
  pub held_before : Option (List ℕ)
  pub held_after : Option (List ℕ)
  pub write_faults_before : ℕ
  pub write_faults_after : ℕ

-- the same by what is told of a source and of a sink, of each as it was and as it is
abbrev pub streams_of : {S K : Type 0} → (S → Option (List ℕ)) → (S → ℕ) → S → S → (K → Option (List ℕ)) → (K → ℕ)
    → K → K → Streams
streams_of left read_faults log log' held write_faults out out' = record {
  left_before = left log;
  left_after = left log';
  read_faults_before = read_faults log;
  read_faults_after = read_faults log';
  held_before = held out;
  held_after = held out';
  write_faults_before = write_faults out;
  write_faults_after = write_faults out';
}

-- this text was to be written with this status
abbrev pub WroteTo : Status → List ℕ → Status → Streams → Type 0
WroteTo wanted text result streams =
    Wrote wanted text result streams.held_before streams.held_after streams.write_faults_before
    streams.write_faults_after

-- nothing was written, and this is the status
abbrev pub SilentTo : Status → Status → Streams → Type 0
SilentTo wanted result streams =
    Silent wanted result streams.held_before streams.held_after streams.write_faults_before streams.write_faults_after

-- something was said of the text that was left, and its line was written
pub record Told {P V : Type 0} (reader : Reader P V) (start : P) (Text : V → List ℕ → Type 0) (tells : V → Status)
    (result : Status) (streams : Streams) : Type 0 where
  pub says : V
  pub concludes : Concludes reader 1 start streams.left_before says streams.left_after
  pub sound : streams.read_faults_after ≡ streams.read_faults_before
  pub text : List ℕ
  pub is : Text says text
  pub wrote : WroteTo (tells says) text result streams

-- nothing was said: a read failed, or there was no memory
pub record ReadFailed {P V : Type 0} (reader : Reader P V) (start : P) (result : Status) (streams : Streams)
    : Type 0 where
  pub breaks : Breaks reader 1 start streams.left_before streams.left_after
  pub rose : Rose streams.read_faults_before streams.read_faults_after
  pub silent : SilentTo status.ReadFault result streams

pub record Wanted (Wants : Option (List ℕ) → Option (List ℕ) → Type 0) (result : Status) (streams : Streams)
    : Type 0 where
  pub wants : Wants streams.left_before streams.left_after
  pub sound : streams.read_faults_after ≡ streams.read_faults_before
  pub silent : SilentTo status.NoMemory result streams

-- a text was read, and the answer was written
abbrev pub Answered : {P V : Type 0} → Reader P V → P → (V → List ℕ → Type 0) → (V → Status)
    → (Option (List ℕ) → Option (List ℕ) → Type 0) → Status → Streams → Type 0
Answered reader start Text tells Wants result streams =
    Told reader start Text tells result streams
    ⊎ (ReadFailed reader start result streams ⊎ Wanted Wants result streams)

-- a run was read whole
pub record ReadWhole (left left' : Option (List ℕ)) : Type 0 where
  pub heading : Heading
  pub steps : List Step
  pub concludes : Concludes run_reader 1 run.AtHeader left (run.Whole heading steps) left'

-- what was left and is left where there was no memory for a run
abbrev pub WantsRun : Option (List ℕ) → Option (List ℕ) → Type 0
WantsRun left left' = Starves run_reader 1 run.AtHeader left left' ⊎ ReadWhole left left'

-- a log was read whole with its certificate
pub record ReadBoth (left left' : Option (List ℕ)) : Type 0 where
  pub heading : Heading
  pub log : List Event
  pub claims : List Claim
  pub concludes : Concludes certificate_reader 1 read.AtHeader left (read.Whole heading log claims) left'

-- what was left and is left where there was no memory for a log and its certificate
abbrev pub WantsRead : Option (List ℕ) → Option (List ℕ) → Type 0
WantsRead left left' = Starves certificate_reader 1 read.AtHeader left left' ⊎ ReadBoth left left'

-- the same by why reading stopped
abbrev pub ReportsShown : Command → Option Heading → List Event → Stop → Status → Option (List ℕ) → Option (List ℕ)
    → ℕ → ℕ → Type 0
ReportsShown command heading h (Decided decision) result old new faults faults' =
    ReportsDecided command heading h decision result old new faults faults'
ReportsShown command heading h ReadFault result old new faults faults' =
    Silent status.ReadFault result old new faults faults'
ReportsShown command heading h NoMemory result old new faults faults' =
    Silent status.NoMemory result old new faults faults'

-- a log was read for its verdict, behind which a command shows more
pub record ReadJudged (command : Command) (left left' : Option (List ℕ)) : Type 0 where
  pub says : Judged
  pub concludes : Concludes (reader_for command) 1 AtHeader left says left'
  pub shows : MayShowEvidence command says.verdict

-- what was left and is left where there was no memory for a command
abbrev pub WantsJudged : Command → Option (List ℕ) → Option (List ℕ) → Type 0
WantsJudged command left left' = Starves (reader_for command) 1 AtHeader left left' ⊎ ReadJudged command left left'

-- a log was judged for a command
pub record Obeys (command : Command) (result : Status) (streams : Streams) : Type 0 where
  pub heading : Option Heading
  pub heads : Heads streams.left_before heading
  pub answered : Answered (reader_for command) AtHeader
      (λ said text. IsOutput command heading said.log said.refused said.verdict text) (λ said. status_of said.verdict)
      (WantsJudged command) result streams

-- a run was followed
abbrev pub FollowsRun : Status → Streams → Type 0
FollowsRun result streams =
    Answered run_reader run.AtHeader (λ says text. text ≡ run.run_text says) run_status WantsRun result streams

-- a log was judged by its certificate
abbrev pub Verifies : Status → Streams → Type 0
Verifies result streams =
    Answered certificate_reader read.AtHeader (λ says text. text ≡ read_text says) read_status WantsRead result streams

-- a generated log was written, and the source is as before
abbrev pub Generates : ℕ → ℕ → Status → Streams → Type 0
Generates n count result streams =
    (streams.left_after ≡ streams.left_before) × (streams.read_faults_after ≡ streams.read_faults_before)
    × WroteTo status.Accepted (gen_text n count) result streams

-- the same of a self-test
abbrev pub Selftests : ℕ → ℕ → Status → Streams → Type 0
Selftests n count result streams =
    (streams.left_after ≡ streams.left_before) × (streams.read_faults_after ≡ streams.read_faults_before)
    × Tested n count result streams.held_before streams.held_after streams.write_faults_before
    streams.write_faults_after

-- what was asked for was done
abbrev pub Serves : Request → Status → Streams → Type 0
Serves (Judge command) result streams = Obeys command result streams
Serves Follow result streams = FollowsRun result streams
Serves Verify result streams = Verifies result streams
Serves (Generate n count) result streams = Generates n count result streams
Serves (Selftest n count) result streams = Selftests n count result streams
