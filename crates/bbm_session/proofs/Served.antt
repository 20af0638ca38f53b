-- What a text that was read says of a call of the program: the bytes that were read and written, and the status.
use Rattle.bbm_session.proofs.Common.{Heading, Event, Kept, Verdict, Accepted, Refused, Malformed, Limit, Limits}
use Rattle.bbm_session.proofs.Common.{Patterns, Step, Command, Judge, Verify, Generate, Selftest, Decision, Stop}
use Rattle.bbm_session.proofs.Common.{Decided, ReadFault, NoMemory, CertifiedReadFor, IsOutput, IsOutputFor, Reader}
use Rattle.bbm_session.proofs.Common.{Certifies, Follows, certificate_reader, run_reader, is_frugal, judged_at}
use Rattle.bbm_session.proofs.Common.{reader_for, gen_text, NeedsMemory, ReadFor, limits_of, RunReadFor, Breaks}
use Rattle.bbm_session.proofs.Common.{Concludes, Ends, HeaderLine, Starts, Starves, Stops, Heads, Reports, ReportsShown}
use Rattle.bbm_rules.proofs.Common.{◌≡◌, ◌⊎◌, ℕ, Bool, true, false, List, [], Option, Some, None, Result, Ok, Err, refl}
use Rattle.bbm_rules.proofs.Common.{ap, sym, ◌∙◌, subst, inl, inr, reverse, length, IfOk, false≢true, Claim, AtHeader}
use Rattle.bbm_rules.proofs.Common.{Judged, Progress, Text, ending_at, events_in, outcome_of, text_of, verdict_of_bytes}
use Rattle.bbm_io.specs.Flow.{extended}
use Rattle.bbm_cert.specs.declared.judged.Judged.{Judged as JudgedBy}
use Rattle.bbm_cert.specs.declared.judged.Judged.TheVariants.{Yes, No}
use Rattle.bbm_cert.specs.Judged.{judged}
use Rattle.bbm_certificate.specs.CertificateReading as read
use Rattle.bbm_follow.specs.declared.followed.Followed.{Followed}
use Rattle.bbm_follow.specs.declared.followed.Followed.TheVariants.{Run, BadStep}
use Rattle.bbm_follow.specs.Following as run
use Rattle.bbm_session.specs.declared.command.Request.{Request}
use Rattle.bbm_session.specs.declared.command.Request.TheVariants.{Follow}
use Rattle.bbm_texts.specs.declared.status.Status.{Status}
use Rattle.bbm_texts.specs.declared.status.Status.TheVariants as status
use Rattle.bbm_session.specs.Certificates.{certified_needs, read_status, read_text}
use Rattle.bbm_texts.specs.Statuses.{judged_status as status_judged, status_of, followed_status}
use Rattle.bbm_texts.specs.Says.{judged_text as text_judged, MayShowEvidence}
use Rattle.bbm_session.specs.Readers.{whole_run}
use Rattle.bbm_session.specs.JudgedLog.{JudgedLog}
use Rattle.bbm_session.specs.Requests.{status_for, IsTextFor, IsSomeTextFor, unread_for, ReadForAll, FaultAt, WantAt}
use Rattle.bbm_session.specs.Requests.{reads_input}
use Rattle.bbm_texts.specs.Generating.{selftest_text}
use Rattle.bbm_session.specs.Run.{IsTextOf, Wants, tells_verdict}
use Rattle.bbm_session.specs.Runs.{run_status, step_needs}
use Rattle.bbm_session.specs.Serving.{Answered, FollowsRun, IsLine, Obeys, Serves, SilentTo, Streams, Told, Verifies}
use Rattle.bbm_session.specs.Serving.{WantsJudged, WantsRead, WantsRun, WroteTo}
use Rattle.bbm_texts.specs.Writing.{Part, ReportsJudged, ReportsRun}
use Rattle.bbm_session.proofs.CertificateLines.{NotAccepted, certifying-start, certified-whole, certified-read-to}
use Rattle.bbm_session.proofs.CertificateLines.{not-accepted}
use Rattle.bbm_session.proofs.RunLines.{following-start, run-read-to}
use Rattle.bbm_session.proofs.Judgements.{needs-memory, read-to}
use Rattle.bbm_session.proofs.ReadBytes.{to_fault, to_want}
use Rattle.bbm_session.proofs.Stages.{continues-concludes, continues-stops, header-passes}

tells_of : (v : Verdict) → tells_verdict (status_of v) ≡ true
tells_of (Accepted events) = refl
tells_of (Refused line rule at label) = refl
tells_of (Malformed line cause) = refl
tells_of (Limit line which) = refl

tells_followed : (f : Followed) → tells_verdict (followed_status f) ≡ true
tells_followed (Run steps conflict) = refl
tells_followed (BadStep line) = refl

tells_run : (says : run.RunSays) → tells_verdict (run_status says) ≡ true
tells_run (run.Stopped verdict) = tells_of verdict
tells_run (run.Whole heading steps) = tells_followed (run.followed heading steps)

tells_judged : (j : JudgedBy) → tells_verdict (status_judged j) ≡ true
tells_judged Yes = refl
tells_judged (No position rule at) = refl

tells_read : (says : read.CertificateSays) → tells_verdict (read_status says) ≡ true
tells_read (read.Stopped verdict) = tells_of verdict
tells_read (read.Whole heading h claims) = tells_judged (judged heading claims h)

quiet : (result other : Status) → tells_verdict other ≡ false → result ≡ other → tells_verdict result ≡ true → ⊥
quiet result other untold same tells = false≢true (sym untold ∙ ap tells_verdict (sym same) ∙ tells)

none_left : (v : Verdict) (read : Text) (unread : List ℕ) → status_of v ≡ status.Accepted → ReadFor v read unread
    → unread ≡ []
none_left (Accepted events) read unread accepted f = f
none_left (Refused line rule at label) read unread accepted f = cc
none_left (Malformed line cause) read unread accepted f = cc
none_left (Limit line which) read unread accepted f = cc

none_left_run : (says : run.RunSays) (read : Text) (unread : List ℕ) → run_status says ≡ status.Accepted
    → RunReadFor says read unread → unread ≡ []
none_left_run (run.Stopped verdict) read unread accepted f = none_left verdict read unread accepted f
none_left_run (run.Whole heading steps) read unread accepted f = f

none_left_read : (says : read.CertificateSays) (text : Text) (unread : List ℕ) → read_status says ≡ status.Accepted
    → CertifiedReadFor says text unread → unread ≡ []
none_left_read (read.Stopped verdict) text unread accepted f = none_left verdict text unread accepted f
none_left_read (read.Whole heading h claims) text unread accepted f = f

yes_is : (j : JudgedBy) → status_judged j ≡ status.Accepted → j ≡ Yes
yes_is Yes accepted = refl
yes_is (No position rule at) accepted = cc

accepted_is : (v : Verdict) → status_of v ≡ status.Accepted → (count : ℕ) × (v ≡ Accepted count)
accepted_is (Accepted events) accepted = (events, refl)
accepted_is (Refused line rule at label) accepted = cc
accepted_is (Malformed line cause) accepted = cc
accepted_is (Limit line which) accepted = cc

-- what is accepted is read whole, and judged so
accepted_whole : (says : read.CertificateSays) → read_status says ≡ status.Accepted → NotAccepted says
    → (heading : Heading) × (h : List Event) × (claims : List Claim) × (says ≡ read.Whole heading h claims)
    × (judged heading claims h ≡ Yes)
accepted_whole (read.Stopped (Accepted events)) accepted apart = absurd apart
accepted_whole (read.Stopped (Refused line rule at label)) accepted apart = cc
accepted_whole (read.Stopped (Malformed line cause)) accepted apart = cc
accepted_whole (read.Stopped (Limit line which)) accepted apart = cc
accepted_whole (read.Whole heading h claims) accepted apart =
    (heading, h, claims, refl, yes_is (judged heading claims h) accepted)

-- ---- what was said of some bytes, of which this is left

-- what was left where it is known what was said
unread_is : {P V : Type 0} (reader : Reader P V) (start : P) (bytes : List ℕ) (left : Option (List ℕ)) (v : V)
    → Concludes reader 1 start (Some bytes) v left
    → ((ending_at reader.lines 1 start bytes).says ≡ v) × (left ≡ Some (ending_at reader.lines 1 start bytes).unread)
unread_is reader start bytes None v concludes = absurd concludes
unread_is reader start bytes (Some rest) v concludes = (concludes.0, ap Some (sym concludes.1))

judged_text : (command : Command) (heading : Option Heading) (bytes : List ℕ) (v : Judged) (text : List ℕ)
    → (outcome_of Patterns (limits_of command) bytes).says ≡ v
    → Heads (Some bytes) heading → IsOutput command heading v.log v.refused v.verdict text → IsTextOf command bytes text
judged_text command heading bytes v text is heads says =
    let judged = (outcome_of Patterns (limits_of command) bytes).says in
    subst (λ (x : Option Heading). IsOutput command x judged.log judged.refused judged.verdict text) (sym heads)
    (subst (λ (x : Judged). IsOutput command heading x.log x.refused x.verdict text) (sym is) says)

module _ (bytes : List ℕ) (left : Option (List ℕ)) where
  judged_concluded : (command : Command) (v : Judged) → Concludes (reader_for command) 1 AtHeader (Some bytes) v left
      → ((outcome_of Patterns (limits_of command) bytes).says ≡ v)
      × (left ≡ Some (outcome_of Patterns (limits_of command) bytes).unread)
  judged_concluded command v concludes = unread_is (reader_for command) AtHeader bytes left v concludes

  run_concluded : (says : run.RunSays) → Concludes run_reader 1 run.AtHeader (Some bytes) says left
      → ((run.run_of bytes).says ≡ says) × (left ≡ Some (run.run_of bytes).unread)
  run_concluded says concludes = unread_is run_reader run.AtHeader bytes left says concludes

  read_concluded : (says : read.CertificateSays) → Concludes certificate_reader 1 read.AtHeader (Some bytes) says left
      → ((read.read_of bytes).says ≡ says) × (left ≡ Some (read.read_of bytes).unread)
  read_concluded says concludes = unread_is certificate_reader read.AtHeader bytes left says concludes

  -- all before what is left was read for what is said
  read_for_all : (request : Request) → left ≡ Some (unread_for request bytes) → ReadForAll request bytes left
  read_for_all (Judge command) is = read-to (limits_of command) bytes left is
  read_for_all Follow is = run-read-to bytes left is
  read_for_all Verify is = certified-read-to bytes left is
  read_for_all (Generate n count) is = is
  read_for_all (Selftest n count) is = is

  -- where it's accepted, nothing is left
  none_left_for : (request : Request) → reads_input request ≡ true → status_for request bytes ≡ status.Accepted
      → ReadForAll request bytes left → left ≡ Some []
  none_left_for (Judge command) reads accepted r =
      r.3 ∙ ap Some (none_left (verdict_of_bytes Patterns (limits_of command) bytes) (text_of r.0) r.1 accepted r.4)
  none_left_for Follow reads accepted r =
      r.3 ∙ ap Some (none_left_run (run.run_of bytes).says (text_of r.0) r.1 accepted r.4)
  none_left_for Verify reads accepted r =
      r.3 ∙ ap Some (none_left_read (read.read_of bytes).says (text_of r.0) r.1 accepted r.4)
  none_left_for (Generate n count) reads accepted r = cc
  none_left_for (Selftest n count) reads accepted r = cc

  -- there was no memory for a line, or for what comes of what was read whole
  judged_wants : (command : Command) → WantsJudged command (Some bytes) left → Wants command bytes left
  judged_wants command (inl starves) =
      inl (to_want (reader_for command) AtHeader (λ n. NeedsMemory command) (λ n. needs-memory command) bytes left
      starves)
  judged_wants command (inr whole) =
      let k = judged_concluded command whole.says whole.concludes in
      inr (record {
        shows = subst (λ (v : Judged). MayShowEvidence command v.verdict) (sym k.0) whole.shows;
        read = read-to (limits_of command) bytes left k.1;
      })

  run_wants : WantsRun (Some bytes) left → WantAt Follow bytes left
  run_wants (inl starves) =
      inl (to_want run_reader run.AtHeader (λ n p line. step_needs n p line ≡ true) (λ n p line needs. needs) bytes left
      starves)
  run_wants (inr whole) =
      let k = run_concluded (run.Whole whole.heading whole.steps) whole.concludes in
      let r = run-read-to bytes left k.1 in
      inr (record {
        heading = whole.heading;
        steps = whole.steps;
        whole = k.0;
        now = r.3 ∙ ap Some (subst (λ (s : run.RunSays). RunReadFor s (text_of r.0) r.1) k.0 r.4);
      })

  read_wants : WantsRead (Some bytes) left → WantAt Verify bytes left
  read_wants (inl starves) =
      inl (to_want certificate_reader read.AtHeader (λ n p line. certified_needs n p line ≡ true)
      (λ n p line needs. needs) bytes left starves)
  read_wants (inr whole) =
      let k = read_concluded (read.Whole whole.heading whole.log whole.claims) whole.concludes in
      let r = certified-read-to bytes left k.1 in
      inr (record {
        heading = whole.heading;
        log = whole.log;
        claims = whole.claims;
        whole = k.0;
        now = r.3 ∙ ap Some (subst (λ (s : read.CertificateSays). CertifiedReadFor s (text_of r.0) r.1) k.0 r.4);
      })

-- a log that was judged by the limits of a command, and by a checker that is frugal where that of the command is
pub judged-for : (command : Command) (stands : Heading → List Event → Type 0) (heading : Heading) (stop : Stop)
    (old new : Option (List ℕ)) (f f' : ℕ) (frugal : Bool) (limits : Limits)
    → frugal ≡ is_frugal command → limits ≡ limits_of command
    → JudgedLog frugal stands limits heading stop old new f f'
    → JudgedLog (is_frugal command) stands (limits_of command) heading stop old new f f'
judged-for command stands heading stop old new f f' frugal limits is within judged =
    subst (λ (b : Bool). JudgedLog b stands (limits_of command) heading stop old new f f') is
    (subst (λ (l : Limits). JudgedLog frugal stands l heading stop old new f f') within judged)

module _ (result : Status) (streams : Streams) where
  open streams use {left_before as old, left_after as new, read_faults_before as f, read_faults_after as f'}
  open streams use {held_before as held, held_after as held', write_faults_before as w, write_faults_after as w'}

  -- ---- how a text is answered, by why reading stopped

  pub answered : {P V : Type 0} (reader : Reader P V) (start q : P) (Text : V → List ℕ → Type 0) (tells : V → Status)
      (Wants : Option (List ℕ) → Option (List ℕ) → Type 0) (OfVerdict : Decision → List ℕ → Type 0) (stop : Stop)
      → ((v : Decision) (text : List ℕ) → OfVerdict v text → Text (reader.stopped q v) text)
      → ((v : Decision) → status_of v.verdict ≡ tells (reader.stopped q v))
      → (Starves reader 1 start old new → Wants old new)
      → Stops reader 1 start old stop q new f f' → Reports OfVerdict stop result held held' w w'
      → Answered reader start Text tells Wants result streams
  answered reader start q Text tells Wants OfVerdict (Decided v) texts statuses wants stops reports = inl (record {
    says = reader.stopped q v;
    concludes = stops.0;
    sound = stops.1;
    text = reports.0;
    is = texts v reports.0 reports.1;
    wrote = subst (λ (s : Status). WroteTo s reports.0 result streams) (statuses v) reports.2;
  })
  answered reader start q Text tells Wants OfVerdict ReadFault texts statuses wants stops reports =
      inr (inl (record { breaks = stops.0; rose = stops.1; silent = reports }))
  answered reader start q Text tells Wants OfVerdict NoMemory texts statuses wants stops reports =
      inr (inr (record { wants = wants stops.0; sound = stops.1; silent = reports }))

  -- a log that was judged for a command, by the text that is told of a verdict
  pub answered-judged : (command : Command) (heading : Option Heading) (reached : Progress) (stop : Stop)
      → Stops (reader_for command) 1 AtHeader old stop reached new f f'
      → Reports (IsOutputFor command heading (events_in reached)) stop result held held' w w' → Heads old heading
      → Obeys command result streams
  answered-judged command heading reached stop stops reports heads = record {
    heading = heading;
    heads = heads;
    answered = answered (reader_for command) AtHeader reached
        (λ said text. IsOutput command heading said.log said.refused said.verdict text) (λ said. status_of said.verdict)
        (WantsJudged command) (IsOutputFor command heading (events_in reached)) stop
        (λ v text says. says) (λ v. refl) (λ starves. inl starves) stops reports;
  }

  -- the same for a command that shows more of the events
  pub answered-shown : (command : Command) (heading : Option Heading) (reached : Progress) (stop : Stop)
      → Stops (reader_for command) 1 AtHeader old stop reached new f f'
      → ReportsShown command heading (events_in reached) stop result held held' w w' → Heads old heading
      → Obeys command result streams
  answered-shown command heading reached stop stops reports heads =
      record { heading = heading; heads = heads; answered = by stop stops reports }
    where
      by : (s : Stop) → Stops (reader_for command) 1 AtHeader old s reached new f f'
          → ReportsShown command heading (events_in reached) s result held held' w w'
          → Answered (reader_for command) AtHeader
          (λ said text. IsOutput command heading said.log said.refused said.verdict text) (λ said. status_of said.verdict)
          (WantsJudged command) result streams
      by (Decided decision) stopped (inl told) = inl (record {
        says = judged_at reached decision;
        concludes = stopped.0;
        sound = stopped.1;
        text = told.0;
        is = told.1;
        wrote = told.2;
      })
      by (Decided decision) stopped (inr wants) = inr (inr (record {
        wants = inr (record { says = judged_at reached decision; concludes = stopped.0; shows = wants.0 });
        sound = stopped.1;
        silent = wants.1;
      }))
      by ReadFault stopped silent =
          inr (inl (record { breaks = stopped.0; rose = stopped.1; silent = silent }))
      by NoMemory stopped silent =
          inr (inr (record { wants = inl stopped.0; sound = stopped.1; silent = silent }))

  -- a run that was read whole, and followed if there was memory
  pub followed-whole : {E : Type 0} (heading : Heading) (kept : List Step) (told : Result Followed E)
      (mid : Option (List ℕ)) (between : ℕ) → HeaderLine heading old mid → between ≡ f
      → Ends run_reader (Follows kept run_reader heading) (run.AtSteps heading []) (Ok tt) mid new between f'
      → IfOk told (λ t. t ≡ run.followed heading (reverse kept)) → ReportsRun told result held held' w w'
      → FollowsRun result streams
  followed-whole {E = E} heading kept told mid between header same ends is reports = by told is reports
    where
      concludes : Concludes run_reader 1 run.AtHeader old (run.Whole heading (reverse kept)) new
      concludes =
          continues-concludes run_reader 1 2 run.AtHeader (run.AtSteps heading []) (run.Whole heading (reverse kept))
          old mid new
          (header-passes run_reader run.AtHeader (λ h. run.AtSteps h []) following-start heading old mid header)
          (subst (λ (v : run.RunSays). Concludes run_reader 2 (run.AtSteps heading []) mid v new)
          (ap whole_run ends.3.is) ends.2)

      by : (t : Result Followed E) → IfOk t (λ x. x ≡ run.followed heading (reverse kept))
          → ReportsRun t result held held' w w' → FollowsRun result streams
      by (Ok t) is_told wrote = inl (record {
        says = run.Whole heading (reverse kept);
        concludes = concludes;
        sound = ends.4 ∙ same;
        text = run.followed_text t;
        is = ap run.followed_text is_told;
        wrote = subst (λ (s : Status). WroteTo s (run.followed_text t) result streams) (ap followed_status is_told)
            wrote;
      })
      by (Err e) is_told silent = inr (inr (record {
        wants = inr (record { heading = heading; steps = reverse kept; concludes = concludes });
        sound = ends.4 ∙ same;
        silent = silent;
      }))

  -- a run that was read up to a line that stops reading, or to a fault
  pub followed-stopped : (heading : Heading) (kept : List Step) (stop : Stop) (mid : Option (List ℕ)) (between : ℕ)
      → HeaderLine heading old mid → between ≡ f
      → Ends run_reader (Follows kept run_reader heading) (run.AtSteps heading []) (Err stop) mid new between f'
      → Reports IsLine stop result held held' w w' → FollowsRun result streams
  followed-stopped heading kept stop mid between header same ends reports =
      let begun = λ (h : Heading). run.AtSteps h [] in
      let passes = header-passes run_reader run.AtHeader begun following-start heading old mid header in
      answered run_reader run.AtHeader ends.0 (λ says text. text ≡ run.run_text says) run_status WantsRun IsLine stop
      (λ v text is. is) (λ v. refl) (λ starves. inl starves)
      (continues-stops run_reader 1 2 run.AtHeader (run.AtSteps heading []) ends.0 stop old mid new f between f' passes
      same ends.2) reports

  -- a run whose header was not read
  pub followed-unread : (stop : Stop) → Starts run_reader run.AtHeader (Err stop) old new f f'
      → Reports IsLine stop result held held' w w' → FollowsRun result streams
  followed-unread stop starts reports =
      answered run_reader run.AtHeader run.AtHeader (λ says text. text ≡ run.run_text says) run_status WantsRun IsLine
      stop (λ v text is. is) (λ v. refl) (λ starves. inl starves) starts reports

  -- a log that was read whole with its certificate, and judged if there was memory
  pub verified-whole : {E : Type 0} (heading : Heading) (kept : Kept) (events claims : ℕ) (told : Result JudgedBy E)
      (mid : Option (List ℕ)) (between : ℕ) → HeaderLine heading old mid → between ≡ f
      → Ends certificate_reader (Certifies kept certificate_reader heading) (read.AtEvents heading []) (Ok tt) mid new between f'
      → events ≡ length (reverse kept.events.items) → claims ≡ length kept.claims.items
      → IfOk told (λ t. t ≡ judged heading kept.claims.items (reverse kept.events.items))
      → ReportsJudged events claims told result held held' w w' → Verifies result streams
  verified-whole {E = E} heading kept events claims told mid between header same ends counts claimed is reports =
      by told is reports
    where
      concludes : Concludes certificate_reader 1 read.AtHeader old
          (read.Whole heading (reverse kept.events.items) kept.claims.items) new
      concludes =
          continues-concludes certificate_reader 1 2 read.AtHeader (read.AtEvents heading [])
          (read.Whole heading (reverse kept.events.items) kept.claims.items) old mid new
          (header-passes certificate_reader read.AtHeader (λ h. read.AtEvents h []) certifying-start heading old mid header)
          (subst (λ (v : read.CertificateSays). Concludes certificate_reader 2 (read.AtEvents heading []) mid v new)
          (certified-whole heading kept certificate_reader ends.0 ends.1 ends.3) ends.2)

      by : (t : Result JudgedBy E) → IfOk t (λ x. x ≡ judged heading kept.claims.items (reverse kept.events.items))
          → ReportsJudged events claims t result held held' w w' → Verifies result streams
      by (Ok t) is_told wrote = inl (record {
        says = read.Whole heading (reverse kept.events.items) kept.claims.items;
        concludes = concludes;
        sound = ends.4 ∙ same;
        text = text_judged events claims t;
        is = ap (λ (n : ℕ). text_judged n claims t) counts
            ∙ ap (λ (n : ℕ). text_judged (length (reverse kept.events.items)) n t) claimed
            ∙ ap (text_judged (length (reverse kept.events.items)) (length kept.claims.items)) is_told;
        wrote = subst (λ (s : Status). WroteTo s (text_judged events claims t) result streams)
            (ap status_judged is_told) wrote;
      })
      by (Err e) is_told silent = inr (inr (record {
        wants = inr (record {
          heading = heading;
          log = reverse kept.events.items;
          claims = kept.claims.items;
          concludes = concludes;
        });
        sound = ends.4 ∙ same;
        silent = silent;
      }))

  -- a log and its certificate that were read up to a line that stops reading, or to a fault
  pub verified-stopped : (heading : Heading) (kept : Kept) (stop : Stop) (mid : Option (List ℕ)) (between : ℕ)
      → HeaderLine heading old mid → between ≡ f
      → Ends certificate_reader (Certifies kept certificate_reader heading) (read.AtEvents heading []) (Err stop) mid new between f'
      → Reports IsLine stop result held held' w w' → Verifies result streams
  verified-stopped heading kept stop mid between header same ends reports =
      let begun = λ (h : Heading). read.AtEvents h [] in
      let passes = header-passes certificate_reader read.AtHeader begun certifying-start heading old mid header in
      answered certificate_reader read.AtHeader ends.0 (λ says text. text ≡ read_text says) read_status WantsRead IsLine stop
      (λ v text is. is) (λ v. refl) (λ starves. inl starves)
      (continues-stops certificate_reader 1 2 read.AtHeader (read.AtEvents heading []) ends.0 stop old mid new f between f'
      passes same ends.2) reports

  -- a log and its certificate whose header was not read
  pub verified-unread : (stop : Stop) → Starts certificate_reader read.AtHeader (Err stop) old new f f'
      → Reports IsLine stop result held held' w w' → Verifies result streams
  verified-unread stop starts reports =
      answered certificate_reader read.AtHeader read.AtHeader (λ says text. text ≡ read_text says) read_status WantsRead IsLine
      stop (λ v text is. is) (λ v. refl) (λ starves. inl starves) starts reports

  -- ---- what is known where the request was served

  -- the text was to be written where the status tells of it, or where a write failed
  abbrev Spoke : Type 0
  Spoke = (tells_verdict result ≡ true) ⊎ (result ≡ status.WriteFault)

  unspoken : (other : Status) → tells_verdict other ≡ false → (status.WriteFault ≡ other → ⊥) → result ≡ other
      → Spoke → ⊥
  unspoken other untold apart is (inl tell) = quiet result other untold is tell
  unspoken other untold apart is (inr cuts) = apart (sym cuts ∙ is)

  wrote_apart : (wanted : Status) (text : List ℕ) → tells_verdict wanted ≡ true → WroteTo wanted text result streams
      → (other : Status) → tells_verdict other ≡ false → (status.WriteFault ≡ other → ⊥) → result ≡ other → ⊥
  wrote_apart wanted text told (inl wrote) other untold apart is =
      quiet result other untold is (ap tells_verdict wrote.0 ∙ told)
  wrote_apart wanted text told (inr failed) other untold apart is = apart (sym failed.0 ∙ is)

  wrote_whole : (wanted : Status) (text : List ℕ) → WroteTo wanted text result streams → tells_verdict result ≡ true
      → (result ≡ wanted) × (held' ≡ extended held text)
  wrote_whole wanted text (inl wrote) tell = (wrote.0, wrote.1)
  wrote_whole wanted text (inr failed) tell = absurd (quiet result status.WriteFault refl failed.0 tell)

  wrote_part : (wanted : Status) (text : List ℕ) → tells_verdict wanted ≡ true → WroteTo wanted text result streams
      → result ≡ status.WriteFault → Part text held held'
  wrote_part wanted text told (inl wrote) is =
      absurd (quiet result status.WriteFault refl is (ap tells_verdict wrote.0 ∙ told))
  wrote_part wanted text told (inr failed) is = failed.2

  -- a text that was read
  module _ {P V : Type 0} {reader : Reader P V} {start : P} {Text : V → List ℕ → Type 0} {tells : V → Status}
      {Wants : Option (List ℕ) → Option (List ℕ) → Type 0} (told : (v : V) → tells_verdict (tells v) ≡ true) where
    telling : Answered reader start Text tells Wants result streams → Spoke → Told reader start Text tells result streams
    telling (inl t) spoke = t
    telling (inr (inl failed)) spoke =
        absurd (unspoken status.ReadFault refl (λ same. cc) failed.silent.0 spoke)
    telling (inr (inr wanted)) spoke =
        absurd (unspoken status.NoMemory refl (λ same. cc) wanted.silent.0 spoke)

    broke : Answered reader start Text tells Wants result streams → result ≡ status.ReadFault
        → Breaks reader 1 start old new
    broke (inl t) is =
        absurd (wrote_apart (tells t.says) t.text (told t.says) t.wrote status.ReadFault refl (λ same. cc) is)
    broke (inr (inl failed)) is = failed.breaks
    broke (inr (inr wanted)) is = let other = wanted.silent.0 in cc

    starved : Answered reader start Text tells Wants result streams → result ≡ status.NoMemory → Wants old new
    starved (inl t) is =
        absurd (wrote_apart (tells t.says) t.text (told t.says) t.wrote status.NoMemory refl (λ same. cc) is)
    starved (inr (inl failed)) is = let other = failed.silent.0 in cc
    starved (inr (inr wanted)) is = wanted.wants

  -- a text that needs none to be read, or there was no memory
  abbrev Tests : List ℕ → Type 0
  Tests text = WroteTo status.Accepted text result streams ⊎ SilentTo status.NoMemory result streams

  tested_telling : (text : List ℕ) → Tests text → Spoke → WroteTo status.Accepted text result streams
  tested_telling text (inl wrote) spoke = wrote
  tested_telling text (inr silent) spoke = absurd (unspoken status.NoMemory refl (λ same. cc) silent.0 spoke)

  tested_sound : (text : List ℕ) → Tests text → result ≡ status.ReadFault → ⊥
  tested_sound text (inl wrote) is = wrote_apart status.Accepted text refl wrote status.ReadFault refl (λ same. cc) is
  tested_sound text (inr silent) is = let other = silent.0 in cc

  wrote_either : (text : List ℕ) → WroteTo status.Accepted text result streams
      → (result ≡ status.Accepted) ⊎ (result ≡ status.WriteFault)
  wrote_either text (inl wrote) = inl wrote.0
  wrote_either text (inr failed) = inr failed.0

  tested_either : (text : List ℕ) → Tests text
      → (result ≡ status.Accepted) ⊎ ((result ≡ status.WriteFault) ⊎ (result ≡ status.NoMemory))
  tested_either text (inl (inl wrote)) = inl wrote.0
  tested_either text (inl (inr failed)) = inr (inl failed.0)
  tested_either text (inr silent) = inr (inr silent.0)

  tells_judgement : (v : Judged) → tells_verdict (status_of v.verdict) ≡ true
  tells_judgement v = tells_of v.verdict

  -- a text of the request was to be written with a status that tells of it
  record SpokeSome (request : Request) : Type 0 where
    wanted : Status
    text : List ℕ
    is : IsSomeTextFor request wanted text
    told : tells_verdict wanted ≡ true
    wrote : WroteTo wanted text result streams

  spoke_some : (request : Request) → Serves request result streams → Spoke → SpokeSome request
  spoke_some (Judge command) o spoke =
      let t = telling tells_judgement o.answered spoke in
      record {
        wanted = status_of t.says.verdict;
        text = t.text;
        is = (t.says.verdict, refl, (o.heading, t.says.log, t.says.refused, t.is));
        told = tells_of t.says.verdict;
        wrote = t.wrote;
      }
  spoke_some Follow o spoke =
      let t = telling tells_run o spoke in
      record {
        wanted = run_status t.says;
        text = t.text;
        is = (t.says, refl, t.is);
        told = tells_run t.says;
        wrote = t.wrote;
      }
  spoke_some Verify o spoke =
      let t = telling tells_read o spoke in
      record {
        wanted = read_status t.says;
        text = t.text;
        is = (t.says, refl, t.is);
        told = tells_read t.says;
        wrote = t.wrote;
      }
  spoke_some (Generate n count) o spoke = record {
    wanted = status.Accepted;
    text = gen_text n count;
    is = (refl, refl);
    told = refl;
    wrote = o.2;
  }
  spoke_some (Selftest n count) o spoke = record {
    wanted = status.Accepted;
    text = selftest_text n count;
    is = (refl, refl);
    told = refl;
    wrote = tested_telling (selftest_text n count) o.2 spoke;
  }

  pub served-some : (request : Request) → Serves request result streams → tells_verdict result ≡ true
      → (text : List ℕ) × IsSomeTextFor request result text × (held' ≡ extended held text)
  served-some request o tell =
      let k = spoke_some request o (inl tell) in
      let whole = wrote_whole k.wanted k.text k.wrote tell in
      (k.text, subst (λ (s : Status). IsSomeTextFor request s k.text) (sym whole.0) k.is, whole.1)

  pub served-part_of_some : (request : Request) → Serves request result streams → result ≡ status.WriteFault
      → (wanted : Status) × (text : List ℕ) × IsSomeTextFor request wanted text × Part text held held'
  served-part_of_some request o cuts =
      let k = spoke_some request o (inr cuts) in
      (k.wanted, k.text, k.is, wrote_part k.wanted k.text k.told k.wrote cuts)

  -- a request that reads nothing
  pub served-untouched : (request : Request) → Serves request result streams → reads_input request ≡ false → new ≡ old
  served-untouched (Judge command) o is = cc
  served-untouched Follow o is = cc
  served-untouched Verify o is = cc
  served-untouched (Generate n count) o is = o.0
  served-untouched (Selftest n count) o is = o.0

  -- the same of a request by another name
  pub served-as : (request other : Request) → request ≡ other → Serves request result streams
      → Serves other result streams
  served-as request other same o = subst (λ (r : Request). Serves r result streams) same o

  pub served-generated : (n count : ℕ) → Serves (Generate n count) result streams
      → (result ≡ status.Accepted) ⊎ (result ≡ status.WriteFault)
  served-generated n count o = wrote_either (gen_text n count) o.2

  pub served-selftested : (n count : ℕ) → Serves (Selftest n count) result streams
      → (result ≡ status.Accepted) ⊎ ((result ≡ status.WriteFault) ⊎ (result ≡ status.NoMemory))
  served-selftested n count o = tested_either (selftest_text n count) o.2

  module _ (bytes : List ℕ) (is : old ≡ Some bytes) where
    heads_at : (heading : Option Heading) → Heads old heading → Heads (Some bytes) heading
    heads_at heading heads = subst (λ (o : Option (List ℕ)). Heads o heading) is heads

    concluded : {P V : Type 0} (reader : Reader P V) (start : P) (v : V) → Concludes reader 1 start old v new
        → Concludes reader 1 start (Some bytes) v new
    concluded reader start v concludes = subst (λ (o : Option (List ℕ)). Concludes reader 1 start o v new) is concludes

    -- the text of the request for these bytes was to be written, with their status
    record SpokeOf (request : Request) : Type 0 where
      text : List ℕ
      has : IsTextFor request bytes text
      unread : new ≡ Some (unread_for request bytes)
      told : tells_verdict (status_for request bytes) ≡ true
      wrote : WroteTo (status_for request bytes) text result streams

    spoke_of : (request : Request) → Serves request result streams → Spoke → SpokeOf request
    spoke_of (Judge command) o spoke =
        let t = telling tells_judgement o.answered spoke in
        let concludes = concluded (reader_for command) AtHeader t.says t.concludes in
        let k = judged_concluded bytes new command t.says concludes in
        record {
          text = t.text;
          has = judged_text command o.heading bytes t.says t.text k.0 (heads_at o.heading o.heads) t.is;
          unread = k.1;
          told = tells_of (verdict_of_bytes Patterns (limits_of command) bytes);
          wrote = subst (λ (v : Judged). WroteTo (status_of v.verdict) t.text result streams) (sym k.0) t.wrote;
        }
    spoke_of Follow o spoke =
        let t = telling tells_run o spoke in
        let k = run_concluded bytes new t.says (concluded run_reader run.AtHeader t.says t.concludes) in
        record {
          text = t.text;
          has = t.is ∙ ap run.run_text (sym k.0);
          unread = k.1;
          told = tells_run (run.run_of bytes).says;
          wrote = subst (λ (s : Status). WroteTo s t.text result streams) (ap run_status (sym k.0)) t.wrote;
        }
    spoke_of Verify o spoke =
        let t = telling tells_read o spoke in
        let k = read_concluded bytes new t.says (concluded certificate_reader read.AtHeader t.says t.concludes) in
        record {
          text = t.text;
          has = t.is ∙ ap read_text (sym k.0);
          unread = k.1;
          told = tells_read (read.read_of bytes).says;
          wrote = subst (λ (s : Status). WroteTo s t.text result streams) (ap read_status (sym k.0)) t.wrote;
        }
    spoke_of (Generate n count) o spoke = record {
      text = gen_text n count;
      has = refl;
      unread = o.0 ∙ is;
      told = refl;
      wrote = o.2;
    }
    spoke_of (Selftest n count) o spoke = record {
      text = selftest_text n count;
      has = refl;
      unread = o.0 ∙ is;
      told = refl;
      wrote = tested_telling (selftest_text n count) o.2 spoke;
    }

    pub served-status : (request : Request) → Serves request result streams → tells_verdict result ≡ true
        → result ≡ status_for request bytes
    served-status request o tell =
        let k = spoke_of request o (inl tell) in
        (wrote_whole (status_for request bytes) k.text k.wrote tell).0

    pub served-text : (request : Request) → Serves request result streams → tells_verdict result ≡ true
        → (text : List ℕ) × IsTextFor request bytes text × (held' ≡ extended held text)
    served-text request o tell =
        let k = spoke_of request o (inl tell) in
        (k.text, k.has, (wrote_whole (status_for request bytes) k.text k.wrote tell).1)

    pub served-part : (request : Request) → Serves request result streams → result ≡ status.WriteFault
        → (text : List ℕ) × IsTextFor request bytes text × Part text held held'
    served-part request o cuts =
        let k = spoke_of request o (inr cuts) in
        (k.text, k.has, wrote_part (status_for request bytes) k.text k.told k.wrote cuts)

    pub served-unread : (request : Request) → Serves request result streams → tells_verdict result ≡ true
        → new ≡ Some (unread_for request bytes)
    served-unread request o tell = (spoke_of request o (inl tell)).unread

    pub served-untold : (request : Request) → Serves request result streams → result ≡ status.WriteFault
        → new ≡ Some (unread_for request bytes)
    served-untold request o cuts = (spoke_of request o (inr cuts)).unread

    pub served-read : (request : Request) → Serves request result streams → tells_verdict result ≡ true
        → ReadForAll request bytes new
    served-read request o tell = read_for_all bytes new request (served-unread request o tell)

    pub served-accepted : (request : Request) → Serves request result streams → reads_input request ≡ true
        → result ≡ status.Accepted → new ≡ Some []
    served-accepted request o reads accepted =
        let tell = ap tells_verdict accepted in
        none_left_for bytes new request reads (sym (served-status request o tell) ∙ accepted)
        (served-read request o tell)

    pub served-accepts : (command : Command) → Serves (Judge command) result streams → result ≡ status.Accepted
        → (count : ℕ) × (verdict_of_bytes Patterns (limits_of command) bytes ≡ Accepted count)
    served-accepts command o accepted =
        accepted_is (verdict_of_bytes Patterns (limits_of command) bytes)
        (sym (served-status (Judge command) o (ap tells_verdict accepted)) ∙ accepted)

    pub served-verified : Serves Verify result streams → result ≡ status.Accepted
        → (heading : Heading) × (h : List Event) × (claims : List Claim)
        × ((read.read_of bytes).says ≡ read.Whole heading h claims) × (judged heading claims h ≡ Yes)
    served-verified o accepted =
        accepted_whole (read.read_of bytes).says (sym (served-status Verify o (ap tells_verdict accepted)) ∙ accepted)
        (not-accepted bytes)

    pub served-fault : (request : Request) → Serves request result streams → result ≡ status.ReadFault
        → FaultAt request bytes new
    served-fault (Judge command) o fault =
        to_fault (reader_for command) AtHeader bytes new
        (subst (λ (x : Option (List ℕ)). Breaks (reader_for command) 1 AtHeader x new) is
        (broke tells_judgement o.answered fault))
    served-fault Follow o fault =
        to_fault run_reader run.AtHeader bytes new
        (subst (λ (x : Option (List ℕ)). Breaks run_reader 1 run.AtHeader x new) is (broke tells_run o fault))
    served-fault Verify o fault =
        to_fault certificate_reader read.AtHeader bytes new
        (subst (λ (x : Option (List ℕ)). Breaks certificate_reader 1 read.AtHeader x new) is (broke tells_read o fault))
    served-fault (Generate n count) o fault = tested_sound (gen_text n count) (inl o.2) fault
    served-fault (Selftest n count) o fault = tested_sound (selftest_text n count) o.2 fault

    pub served-want : (request : Request) → Serves request result streams → result ≡ status.NoMemory
        → WantAt request bytes new
    served-want (Judge command) o want =
        judged_wants bytes new command (subst (λ (x : Option (List ℕ)). WantsJudged command x new) is
        (starved tells_judgement o.answered want))
    served-want Follow o want =
        run_wants bytes new (subst (λ (x : Option (List ℕ)). WantsRun x new) is (starved tells_run o want))
    served-want Verify o want =
        read_wants bytes new (subst (λ (x : Option (List ℕ)). WantsRead x new) is (starved tells_read o want))
    served-want (Generate n count) o want =
        wrote_apart status.Accepted (gen_text n count) refl o.2 status.NoMemory refl (λ same. cc) want
    served-want (Selftest n count) o want = o.0 ∙ is
