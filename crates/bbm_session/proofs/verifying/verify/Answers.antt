use Rattle.bbm_session.proofs.Common.{certificate_reader}
use Rattle.bbm_rules.proofs.Common.{[], ◌*◌, lit≤, refl, sym, length-reverse}
use Rattle.bbm_certificate.specs.declared.kept.Part.TheVariants as part
use Rattle.bbm_certificate.specs.CertificateReading as read
use Rattle.bbm_session.proofs.CertificateLines.{certified-read, certifies-none, certifying-inside, certifying-start}
use Rattle.bbm_session.proofs.Served.{verified-whole, verified-stopped, verified-unread}
use Rattle.bbm_session.proofs.Stages.{shrinks-trans}
use Rattle.bbm_session.proofs.verifying.verify.Goals as goal

pub read_log-requires-clause-begun : goal.read_log-requires-clause-begun
read_log-requires-clause-begun g c =
    let header = c.in-Ok.header in
    let starts = c.in-Ok.ensures.starts certificate_reader read.AtHeader (λ h. read.AtEvents h []) certifying-start in
    let none = certifies-none header c.new.result (c.law_header_in_range.ensures starts.0.line header starts.0.header) c.new.ensures.part c.new.ensures.events c.new.ensures.claims in
    (certificate_reader, read.AtEvents header [], certifying-inside header part.Events [] [], none)

pub judge_kept-requires : goal.judge_kept-requires
judge_kept-requires g c =
    let header = c.in-Ok.header in
    let starts = c.in-Ok.ensures.starts certificate_reader read.AtHeader (λ h. read.AtEvents h []) certifying-start in
    let none = certifies-none header c.new.result (c.law_header_in_range.ensures starts.0.line header starts.0.header) c.new.ensures.part c.new.ensures.events c.new.ensures.claims in
    let ends = c.in-Ok-read_log.ensures.ends certificate_reader (read.AtEvents header []) (certifying-inside header part.Events [] []) none in
    record { read = certified-read header c.read_log.new.taker.kept certificate_reader ends.0 ends.1 ends.3 }

pub returns-in-Ok-read_log-clause-verifies : goal.returns-in-Ok-read_log-clause-verifies
returns-in-Ok-read_log-clause-verifies g c =
    let header = c.in-Ok.header in
    let kept = c.read_log.new.taker.kept in
    let starts = c.in-Ok.ensures.starts certificate_reader read.AtHeader (λ h. read.AtEvents h []) certifying-start in
    let none = certifies-none header c.new.result (c.law_header_in_range.ensures starts.0.line header starts.0.header) c.new.ensures.part c.new.ensures.events c.new.ensures.claims in
    let ends = c.in-Ok-read_log.ensures.ends certificate_reader (read.AtEvents header []) (certifying-inside header part.Events [] []) none in
    verified-whole _ _ header kept _ _ c.judge_kept.result _ _ starts.0 starts.1 ends
    (sym (length-reverse kept.events.items)) refl c.judge_kept.ensures.judged c.report_judged.ensures.reports

pub returns-in-Ok-read_log-clause-shrinks : goal.returns-in-Ok-read_log-clause-shrinks
returns-in-Ok-read_log-clause-shrinks g c = shrinks-trans 201 (201 * 4294967297) (201 * 4294967298) _ _ _ (lit≤ tt) c.in-Ok.ensures.shrinks c.in-Ok-read_log.ensures.shrinks

pub returns-in-Ok-clause-verifies : goal.returns-in-Ok-clause-verifies
returns-in-Ok-clause-verifies g c =
    let header = c.in-Ok.header in
    let starts = c.in-Ok.ensures.starts certificate_reader read.AtHeader (λ h. read.AtEvents h []) certifying-start in
    let none = certifies-none header c.new.result (c.law_header_in_range.ensures starts.0.line header starts.0.header) c.new.ensures.part c.new.ensures.events c.new.ensures.claims in
    let ends = c.in-Err-read_log.ensures.ends certificate_reader (read.AtEvents header []) (certifying-inside header part.Events [] []) none in
    verified-stopped _ _ header c.read_log.new.taker.kept c.in-Err-read_log.stop _ _ starts.0 starts.1 ends
    c.report_stop.ensures.line

pub returns-in-Ok-clause-shrinks : goal.returns-in-Ok-clause-shrinks
returns-in-Ok-clause-shrinks g c = shrinks-trans 201 (201 * 4294967297) (201 * 4294967298) _ _ _ (lit≤ tt) c.in-Ok.ensures.shrinks c.in-Err-read_log.ensures.shrinks

pub returns-clause-verifies : goal.returns-clause-verifies
returns-clause-verifies g c =
    verified-unread _ _ c.in-Err.stop
    (c.in-Err.ensures.starts certificate_reader read.AtHeader (λ h. read.AtEvents h []) certifying-start)
    c.report_stop-in-Err.ensures.line
