use Rattle.bbm_rules.proofs.Common.{Result, subst}
use Rattle.bbm_certificate.specs.CertificateReading.{TakesLine, after_line, kept_at}
use Rattle.bbm_log_grammar.specs.declared.turn.LineFault.{LineFault}
use Rattle.bbm_log_grammar.specs.declared.turn.Turn.{Turn}
use Rattle.bbm_certificate.proofs.Sound.{taken_sound}
use Rattle.bbm_certificate.proofs.taking.take_line.Goals as goal

pub returns-clause-sound : goal.returns-clause-sound
returns-clause-sound c = λ taken sound.
    let heading = c.args.header.now in
    let old = kept_at heading c.args.kept.now in
    let new = kept_at heading c.take_part.new.kept in
    let turned = after_line 0 old c.args.line.now in
    (taken_sound (record { header = c.law_header_in_range.ensures; item = c.law_item_fits.ensures }) 0 old new c.args.line.now
    (subst (λ (r : Result Turn LineFault). TakesLine 0 old new r turned) taken (c.take_part.ensures.says 0)) sound).0

pub returns-clause-counted : goal.returns-clause-counted
returns-clause-counted c = λ taken sound.
    let heading = c.args.header.now in
    let old = kept_at heading c.args.kept.now in
    let new = kept_at heading c.take_part.new.kept in
    let turned = after_line 0 old c.args.line.now in
    (taken_sound (record { header = c.law_header_in_range.ensures; item = c.law_item_fits.ensures }) 0 old new c.args.line.now
    (subst (λ (r : Result Turn LineFault). TakesLine 0 old new r turned) taken (c.take_part.ensures.says 0)) sound).1
