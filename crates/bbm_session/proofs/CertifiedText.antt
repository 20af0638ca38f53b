-- The bytes of an accepted log with the text of its certificate behind them: they are read whole.
use Rattle.bbm_rules.proofs.Common.{◌≡◌, ℕ, suc, ◌+◌, ◌<◌, ◌≤◌, ◌^◌, nat_le, Bool, true, false, if◌then◌else◌, List, []}
use Rattle.bbm_rules.proofs.Common.{◌∷◌, ◌++◌, length, Option, Some, None, result_ok, Ok, refl, sym, ◌∙◌, ap, subst}
use Rattle.bbm_rules.proofs.Common.{arith, and_from, and_parts, append_assoc, append-nil, length-append, eq-eqb}
use Rattle.bbm_rules.proofs.Common.{leb-false, lt-ltb, nat_tests, inl, inr, every, fits_heading, label_fits, heading_ok}
use Rattle.bbm_rules.proofs.Common.{limit_of, Claim, keeps, Patterns, Heading, Event, text_of, is_too_long, In, Judged}
use Rattle.bbm_rules.proofs.Common.{outcome_of, verdict_of_bytes, Contains, to_contains, ◌*◌}
use Rattle.bbm_events.specs.Certificate.{certificate_line, certificate_of, claim_fits, claim_line, claim_of, is_claim}
use Rattle.bbm_events.specs.declared.certificate.ClaimItem.{ClaimItem}
use Rattle.bbm_events.specs.Lines.{header_of}
use Rattle.bbm_events.specs.LineLaws.{ClaimIsALine, HeadersAreInRange, ItemsFit}
use Rattle.bbm_regimes.specs.declared.regime.Which.TheVariants.{Claims, Events, Lines}
use Rattle.bbm_events.specs.declared.malformed.Malformed.TheVariants.{WrongCount}
use Rattle.bbm_rules.specs.Fold.{Halts, Passes, Ending, ending_at, end_by, lines_from, header_by, passes_to, turned_by}
use Rattle.bbm_rules.specs.declared.verdict.Verdict.{Verdict}
use Rattle.bbm_rules.specs.declared.verdict.Verdict.TheVariants.{Accepted, Malformed, Limit}
use Rattle.bbm_rules.proofs.AcceptedLogs.{EndLine, EventLine, EventLines, Parts, kept, limit_parts, parts}
use Rattle.bbm_rules.specs.Outcome.{limit_after, slow_limits}
use Rattle.bbm_certificate.specs.CertificateReading.{Reached, CertificateSays, Stopped, Whole, certifying, read_of}
use Rattle.bbm_certify.specs.LeastClaims.{IsCertificate, WithinLimits}
use Rattle.bbm_report.specs.Further.{heading_in}
use Rattle.bbm_cert.specs.Judged.{judged}
use Rattle.bbm_cert.specs.declared.judged.Judged.TheVariants.{Yes}
use Rattle.bbm_report.specs.ReportLines.{verified_text}
use Rattle.bbm_session.specs.Certificates.{read_status, read_text}
use Rattle.bbm_session.specs.Verified.{IsVerifiedBy}
use Rattle.bbm_texts.specs.Says.{IsOutput, judged_text}
use Rattle.bbm_texts.specs.Statuses.{judged_status}
use Rattle.bbm_texts.specs.declared.commands.Command.TheVariants.{Show}
use Rattle.bbm_texts.specs.declared.commands.Evidence.TheVariants.{Cert}
use Rattle.bbm_texts.specs.CertTexts.{CertOf, CertifiedBy, certificate_text, claim_lines}
use Rattle.bbm_texts.specs.Generating.{ended}
use Rattle.bbm_session.proofs.GeneratedLogs.{plain_is}
use Rattle.bbm_session.proofs.TextLines.{AreLines, ending-behind, ending-passes, lines-append}
use Rattle.bbm_events.specs.declared.certificate.ClaimItem.TheVariants as claim_item
use Rattle.bbm_events.specs.declared.event.Item.TheVariants as item
use Rattle.bbm_certificate.specs.CertificateReading as read

-- the laws of lines
pub record LinesOfClaims : Type 0 where
  pub header : HeadersAreInRange
  pub items : ItemsFit
  pub lines : ClaimIsALine
  pub read : (heading : Heading) (item : ClaimItem) → heading_ok heading ≡ true → claim_fits heading item ≡ true
      → claim_of heading (claim_line item) ≡ Ok item

-- a log that `cert` accepts
pub record IsKept (heading : Heading) (h : List Event) : Type 0 where
  pub ok : heading_ok heading ≡ true
  pub kept : keeps heading Patterns h ≡ true
  pub within : WithinLimits h
  pub fit : every (fits_heading heading) h ≡ true
  pub few : length h ≤ 2000

-- ---- the lines of the log

module _ (facts : LinesOfClaims) (heading : Heading) where
  -- after one event more than these there may be another one
  room : (n : ℕ) (h : List Event) → limit_after slow_limits n (length h) ≡ None → nat_le 2000 (length h) ≡ false
  room n h e = by (nat_le 2000 (length h)) e
    where
      by : (b : Bool) → (if b then Some Events else (if nat_le 4294967295 n then Some Lines else None)) ≡ None → b ≡ false
      by true k = cc
      by false k = refl

  lines_kept : heading_ok heading ≡ true → (lines : List (List ℕ)) (h : List Event)
      → EventLines Patterns slow_limits heading lines h → IsKept heading h
  lines_kept ok lines [] are = record { ok = ok; kept = refl; within = tt; fit = refl; few = omega arith }
  lines_kept ok lines (e ∷ h) are =
      let line : EventLine Patterns slow_limits heading h are.1 e = are.3 in
      let before = lines_kept ok are.0 h are.4 in
      let within = limit_parts slow_limits (length h + 2) h (limit_of h e) line.below in
      let less : length h < 2000 = leb-false 2000 (length h) (room (length h + 2) h within.1) in
      record {
        ok = ok;
        kept = kept Patterns slow_limits heading lines (e ∷ h) are;
        within = (within.0, before.within);
        fit = and_from (fits_heading heading e) (every (fits_heading heading) h) (and_parts (fits_heading heading e)
            (label_fits heading.version line.label) (facts.items heading are.1 (item.Event e line.label) line.spells)).0
            before.fit;
        few = omega (arith, less);
      }

  -- a short line is turned by what it says
  short_line : (n : ℕ) (q : Reached) (line : List ℕ) → is_too_long line ≡ false
      → turned_by certifying n q line ≡ read.after_line n q line
  unfolding turned_by certifying
  short_line n q line short =
      ap (λ b. if b then Halts (Stopped (read.too_long_at n q)) else read.after_line n q line) short

  event_read : (n : ℕ) (h : List Event) (line : List ℕ) (e : Event) → EventLine Patterns slow_limits heading h line e
      → turned_by certifying n (read.AtEvents heading h) line ≡ Passes (read.AtEvents heading (e ∷ h))
  event_read n h line e is =
      let within = limit_parts slow_limits (length h + 2) h (limit_of h e) is.below in
      short_line n (read.AtEvents heading h) line is.short ∙ ap (read.after_item n heading h) is.spells
      ∙ ap (λ b. if b then Halts (Stopped (Limit n Events)) else Passes (read.AtEvents heading (e ∷ h)))
      (room (length h + 2) h within.1)

  lines_read : (lines : List (List ℕ)) (h : List Event) → EventLines Patterns slow_limits heading lines h
      → lines_from certifying 2 (read.AtEvents heading []) lines ≡ Some (read.AtEvents heading h)
  lines_read lines [] are = ap (lines_from certifying 2 (read.AtEvents heading [])) are
  lines_read lines (e ∷ h) are =
      ap (lines_from certifying 2 (read.AtEvents heading [])) are.2
      ∙ lines-append certifying 2 (read.AtEvents heading []) (read.AtEvents heading h) are.0 (are.1 ∷ [])
      (lines_read are.0 h are.4)
      ∙ ap (passes_to (λ next. Some next)) (event_read (2 + length are.0) h are.1 e are.3)

  end_read : (n : ℕ) (h : List Event) (line : List ℕ) → EndLine Patterns slow_limits heading h line
      → turned_by certifying n (read.AtEvents heading h) line ≡ Passes (read.BehindLog heading h)
  end_read n h line is =
      short_line n (read.AtEvents heading h) line is.short ∙ ap (read.after_item n heading h) is.spells
      ∙ ap (λ b. if b then Passes (read.BehindLog heading h) else Halts (Stopped (Malformed n WrongCount)))
      (eq-eqb (length h) (length h) refl)

  header_read : (line : List ℕ) → is_too_long line ≡ false → header_of line ≡ Ok heading
      → turned_by certifying 1 read.AtHeader line ≡ Passes (read.AtEvents heading [])
  header_read line short is =
      short_line 1 read.AtHeader line short ∙ ap (header_by (λ heading. read.AtEvents heading []) Stopped 1) is

-- ---- the lines of the certificate

module _ (facts : LinesOfClaims) (heading : Heading) (ok : heading_ok heading ≡ true) (h : List Event) where
  abbrev whole : List Claim → Ending CertificateSays
  whole cs = record { says = Whole heading h cs; unread = [] }

  at_end : (n : ℕ) (cs : List Claim) → ending_at certifying n (read.AtEnd heading h cs) [] ≡ whole cs
  unfolding end_by certifying
  at_end n cs = refl

  abbrev last : ℕ → List ℕ
  last count = ended (claim_line (claim_item.End count))

  last_line : (n : ℕ) (cs : List Claim) → length cs ≤ 300000
      → ending_at certifying n (read.AtClaims heading h cs) (last (length cs)) ≡ whole cs
  unfolding certifying
  last_line n cs few =
      let line = claim_line (claim_item.End (length cs)) in
      let fits : claim_fits heading (claim_item.End (length cs)) ≡ true = lt-ltb (length cs) (2 ^ 32) (omega (arith, few)) in
      ending-passes certifying n (read.AtClaims heading h cs) (read.AtEnd heading h cs) line []
      (plain_is line ∙ facts.lines.item_plain (claim_item.End (length cs)))
      (facts.lines.item_short heading (claim_item.End (length cs)) ok fits)
      (ap (read.after_claim_item n heading h cs) (facts.read heading (claim_item.End (length cs)) ok fits)
      ∙ ap (λ (b : Bool). if b then Passes (read.AtEnd heading h cs) else Halts (Stopped (Malformed n WrongCount)))
      (eq-eqb (length cs) (length cs) refl))
      ∙ at_end (suc n) cs

  -- a line and its newline, in front of two texts
  in_front : (line more end : List ℕ) → ended line ++ more ++ end ≡ line ++ 10 ∷ (more ++ end)
  in_front line more end = append_assoc (line ++ 10 ∷ []) more end ∙ append_assoc line (10 ∷ []) (more ++ end)

  claims_read : (n : ℕ) (done cs : List Claim) → ((c : Claim) → In cs c → is_claim heading c ≡ true)
      → length (done ++ cs) ≤ 300000
      → ending_at certifying n (read.AtClaims heading h done) (claim_lines cs ++ last (length (done ++ cs))) ≡ whole (done ++ cs)
  unfolding certifying
  claims_read n done [] fit few =
      let same : done ++ [] ≡ done = append-nil done in
      subst (λ (xs : List Claim). ending_at certifying n (read.AtClaims heading h done) (last (length xs)) ≡ whole xs)
      (sym same) (last_line n done (omega (arith, few, ap length same)))
  claims_read n done (c ∷ cs) fit few =
      let line = claim_line (claim_item.Claim c) in
      let more = done ++ c ∷ [] in
      let all : more ++ cs ≡ done ++ c ∷ cs = append_assoc done (c ∷ []) cs in
      let fits : claim_fits heading (claim_item.Claim c) ≡ true = fit c (inl refl) in
      let room : nat_le 300000 (length done) ≡ false = lt-not (length done) (omega (arith, few, length-append done (c ∷ cs))) in
      let end : List ℕ = last (length (done ++ c ∷ cs)) in
      ap (ending_at certifying n (read.AtClaims heading h done)) (in_front line (claim_lines cs) end)
      ∙ (ending-passes certifying n (read.AtClaims heading h done) (read.AtClaims heading h more) line (claim_lines cs ++ end)
      (plain_is line ∙ facts.lines.item_plain (claim_item.Claim c))
      (facts.lines.item_short heading (claim_item.Claim c) ok fits)
      (ap (read.after_claim_item n heading h done) (facts.read heading (claim_item.Claim c) ok fits)
      ∙ ap (λ (b : Bool). if b then Halts (Stopped (Limit n Claims)) else Passes (read.AtClaims heading h more)) room)
      ∙ subst (λ (xs : List Claim). ending_at certifying (suc n) (read.AtClaims heading h more) (claim_lines cs ++ last (length xs))
      ≡ whole xs) all (claims_read (suc n) more cs (λ d i. fit d (inr i)) (omega (arith, few, ap length all))))
    where
      lt-not : (m : ℕ) → m < 300000 → nat_le 300000 m ≡ false
      lt-not m less = grind (arith, nat_tests, less)

  pub certificate_read : (n : ℕ) (cs : List Claim) → ((c : Claim) → In cs c → is_claim heading c ≡ true)
      → length cs ≤ 300000 → ending_at certifying n (read.BehindLog heading h) (certificate_text cs) ≡ whole cs
  unfolding certifying
  certificate_read n cs fit few =
      let first : certificate_of certificate_line ≡ Ok tt = refl in
      ap (ending_at certifying n (read.BehindLog heading h)) (in_front certificate_line (claim_lines cs) (last (length cs)))
      ∙ (ending-passes certifying n (read.BehindLog heading h) (read.AtClaims heading h []) certificate_line
      (claim_lines cs ++ last (length cs)) (plain_is certificate_line ∙ facts.lines.first_plain) facts.lines.first_short
      (ap (read.after_first n heading h) first) ∙ claims_read (suc n) [] cs fit few)

-- ---- the whole text

-- A log is accepted by the checker of `cert`, and the reader of certificates reads it up to its end.
pub record AcceptedLog (bytes : List ℕ) (events : ℕ) (judged : Judged) : Type 0 where
  pub heading : Heading
  pub log : List Event
  pub kept : IsKept heading log
  pub whole : AreLines bytes
  pub headed : heading_in (text_of bytes).lines ≡ Some heading
  pub count : events ≡ length log
  pub log_is : judged.log ≡ log
  pub reads : lines_from certifying 1 read.AtHeader (text_of bytes).lines ≡ Some (read.BehindLog heading log)

module _ (facts : LinesOfClaims) where
  pub accepted_log : (bytes : List ℕ) (events : ℕ) → verdict_of_bytes Patterns slow_limits bytes ≡ Accepted events
      → AcceptedLog bytes events (outcome_of Patterns slow_limits bytes).says
  accepted_log bytes events accepted = by (parts Patterns slow_limits bytes events accepted)
    where
      by : Parts Patterns slow_limits bytes events accepted → AcceptedLog bytes events (outcome_of Patterns slow_limits bytes).says
      by p = record {
        heading = g;
        log = p.h;
        kept = lines_kept facts g (facts.header p.start.line g p.start.spells) p.ends.events p.h p.ends.are_events;
        whole = p.nothing;
        headed = ap heading_in p.whole ∙ ap result_ok p.start.spells;
        count = p.counted;
        log_is = p.logged;
        reads = ap (lines_from certifying 1 read.AtHeader) p.whole
            ∙ ap (passes_to (λ next. lines_from certifying 2 next (p.ends.events ++ p.ends.last ∷ [])))
            (header_read facts g p.start.line p.start.short p.start.spells)
            ∙ lines-append certifying 2 (read.AtEvents g []) (read.AtEvents g p.h) p.ends.events (p.ends.last ∷ [])
            (lines_read facts g p.ends.events p.h p.ends.are_events)
            ∙ ap (passes_to (λ next. Some next)) (end_read facts g (2 + length p.ends.events) p.h p.ends.last p.ends.is_end);
      }
        where
          g : Heading
          g = p.start.heading

  -- with the text of a certificate behind it the log is read whole
  pub read_with : (bytes : List ℕ) (events : ℕ) (judged : Judged) (a : AcceptedLog bytes events judged) (cs : List Claim)
      → ((c : Claim) → In cs c → is_claim a.heading c ≡ true) → length cs ≤ 300000
      → read_of (bytes ++ certificate_text cs) ≡ record { says = Whole a.heading a.log cs; unread = [] }
  read_with bytes events judged a cs fit few =
      ending-behind certifying 1 read.AtHeader (read.BehindLog a.heading a.log) bytes (certificate_text cs) a.whole a.reads
      ∙ certificate_read facts a.heading a.kept.ok a.log (1 + length (text_of bytes).lines) cs fit few

-- what `cert` shows of an accepted log is the text of its certificate
said_certificate : (o : Option Heading) (h : List Event) (refused : Option Event) (v : Verdict) (text : List ℕ)
    (heading : Heading) (events : ℕ) → o ≡ Some heading → v ≡ Accepted events → IsOutput (Show Cert) o h refused v text
    → CertifiedBy heading h text
said_certificate o h refused v text heading events headed accepted says =
    subst (λ (w : Verdict). CertOf heading h w text) accepted
    (subst (λ (x : Option Heading). IsOutput (Show Cert) x h refused v text) headed says)

-- the laws of certificates
pub record CertificateLaws : Type 0 where
  pub lines : LinesOfClaims
  pub few : (heading : Heading) (h : List Event) (claims : List Claim) → heading_ok heading ≡ true
      → keeps heading Patterns h ≡ true → WithinLimits h → IsCertificate heading h claims → length claims ≤ 128 * length h
  pub fit : (heading : Heading) (h : List Event) (claims : List Claim) → heading_ok heading ≡ true
      → keeps heading Patterns h ≡ true → WithinLimits h → every (fits_heading heading) h ≡ true → length h < 2 ^ 32
      → IsCertificate heading h claims → (claim : Claim) → Contains claims claim → is_claim heading claim ≡ true
  pub yes : (heading : Heading) (log : List Event) (claims : List Claim) → heading_ok heading ≡ true
      → keeps heading Patterns log ≡ true → IsCertificate heading log claims → judged heading claims log ≡ Yes

module _ (laws : CertificateLaws) (bytes text : List ℕ) (events : ℕ) (o : Judged) (a : AcceptedLog bytes events o)
    (c : CertifiedBy a.heading a.log text) where
  few_claims : length c.0 ≤ 128 * length a.log
  few_claims = laws.few a.heading a.log c.0 a.kept.ok a.kept.kept a.kept.within c.1

  reads_whole : read_of (bytes ++ text) ≡ record { says = Whole a.heading a.log c.0; unread = [] }
  reads_whole =
      ap (λ (t : List ℕ). read_of (bytes ++ t)) c.2
      ∙ read_with laws.lines bytes events o a c.0
      (λ x i. laws.fit a.heading a.log c.0 a.kept.ok a.kept.kept a.kept.within a.kept.fit
      (let few = a.kept.few in omega (arith, few)) c.1 x (to_contains c.0 x i))
      (let few = a.kept.few in omega (arith, few, few_claims))

  says_yes : judged a.heading c.0 a.log ≡ Yes
  says_yes = laws.yes a.heading a.log c.0 a.kept.ok a.kept.kept c.1

  verified_here : IsVerifiedBy bytes text events a.log
  verified_here =
      let said : (read_of (bytes ++ text)).says ≡ Whole a.heading a.log c.0 = ap (λ (e : Ending CertificateSays). e.says) reads_whole in
      record {
        heading = a.heading;
        claims = c.0;
        written = c.2;
        read = reads_whole;
        few = omega (arith, few_claims, a.count);
        below_limit = let few = a.kept.few in omega (arith, few, few_claims);
        told = ap read_text said ∙ (ap (judged_text (length a.log) (length c.0)) says_yes
            ∙ ap (λ (n : ℕ). verified_text n (length c.0)) (sym a.count));
        status = ap read_status said ∙ ap judged_status says_yes;
      }

-- what `cert` shows of an accepted log is verified behind it
pub certificate_is_verified : CertificateLaws → (bytes text : List ℕ) (events : ℕ)
    → verdict_of_bytes Patterns slow_limits bytes ≡ Accepted events
    → IsOutput (Show Cert) (heading_in (text_of bytes).lines) (outcome_of Patterns slow_limits bytes).says.log
    (outcome_of Patterns slow_limits bytes).says.refused (outcome_of Patterns slow_limits bytes).says.verdict text
    → IsVerifiedBy bytes text events (outcome_of Patterns slow_limits bytes).says.log
certificate_is_verified laws bytes text events accepted says =
    let o : Judged = (outcome_of Patterns slow_limits bytes).says in
    let a = accepted_log laws.lines bytes events accepted in
    let c = said_certificate (heading_in (text_of bytes).lines) o.log o.refused o.verdict text a.heading events a.headed
    accepted says in
    subst (λ (log : List Event). IsVerifiedBy bytes text events log) (sym a.log_is)
    (verified_here laws bytes text events o a
    (subst (λ (log : List Event). CertifiedBy a.heading log text) a.log_is c))
