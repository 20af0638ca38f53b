use Rattle.bbm_texts.proofs.Common.{Failed, claim_lines, ended, Pours}
use Rattle.bbm_rules.proofs.Common.{◌≡◌, ◌++◌, Result, Err, length, ap, subst, sym, ◌∙◌, err_from_is_err_and}
use Rattle.bbm_events.specs.Certificate.{certificate_line, claim_line}
use Rattle.bbm_events.specs.declared.certificate.ClaimItem.TheVariants.{End}
use Rattle.bbm_texts.specs.CertTexts.{certificate_text}
use Rattle.bbm_texts.proofs.Pouring.{pours-longer}
use Rattle.bbm_texts.proofs.certifying.pour_claims.Goals as goal

pub returns-in_err-add_first : goal.returns-in_err-add_first
returns-in_err-add_first g c =
    let e = c.in_err-add_first.field-0.0 in
    let p = err_from_is_err_and c.from_residual.result c.from_residual.ensures.1 in
    let is : Err e ≡ c.from_residual.result = sym (p.1 ∙ ap (λ (x : Failed). Err x) p.2) in
    let first = ended certificate_line in
    let lines = claim_lines c.args.claims.now in
    let end = ended (claim_line (End (length c.args.claims.now))) in
    record {
      poured = subst (λ (r : Result (Unit {0}) Failed). Pours (certificate_text c.args.claims.now) r c.add_first.new.buffer.items (g.K.Sink.held c.args.out.now) (g.K.Sink.held c.add_first.new.out) (g.K.Sink.faults c.args.out.now) (g.K.Sink.faults c.add_first.new.out)) is
          (pours-longer (first ++ lines) end e c.add_first.new.buffer.items (g.K.Sink.held c.args.out.now) (g.K.Sink.held c.add_first.new.out) (g.K.Sink.faults c.args.out.now) (g.K.Sink.faults c.add_first.new.out)
          (pours-longer first lines e c.add_first.new.buffer.items (g.K.Sink.held c.args.out.now) (g.K.Sink.held c.add_first.new.out) (g.K.Sink.faults c.args.out.now) (g.K.Sink.faults c.add_first.new.out) c.in_err-add_first.ensures.poured));
    }

pub returns-in_err-add_claims : goal.returns-in_err-add_claims
returns-in_err-add_claims g c =
    let e = c.in_err-add_claims.field-0.0 in
    let p = err_from_is_err_and c.from_residual-in_err-add_claims.result c.from_residual-in_err-add_claims.ensures.1 in
    let is : Err e ≡ c.from_residual-in_err-add_claims.result = sym (p.1 ∙ ap (λ (x : Failed). Err x) p.2) in
    let first = ended certificate_line in
    let lines = claim_lines c.args.claims.now in
    let end = ended (claim_line (End (length c.args.claims.now))) in
    record {
      poured = subst (λ (r : Result (Unit {0}) Failed). Pours (certificate_text c.args.claims.now) r c.add_claims.new.buffer.items (g.K.Sink.held c.args.out.now) (g.K.Sink.held c.add_claims.new.out) (g.K.Sink.faults c.args.out.now) (g.K.Sink.faults c.add_claims.new.out)) is
          (pours-longer (first ++ lines) end e c.add_claims.new.buffer.items (g.K.Sink.held c.args.out.now) (g.K.Sink.held c.add_claims.new.out) (g.K.Sink.faults c.args.out.now) (g.K.Sink.faults c.add_claims.new.out)
          (c.in_err-add_claims.ensures.poured first (g.K.Sink.held c.args.out.now) (g.K.Sink.faults c.args.out.now) c.in_ok-add_first.ensures.poured));
    }

pub returns : goal.returns
returns g c = record {
  poured = c.add_claim.ensures.poured (ended certificate_line ++ claim_lines c.args.claims.now) (g.K.Sink.held c.args.out.now) (g.K.Sink.faults c.args.out.now)
      (c.in_ok-add_claims.ensures.poured (ended certificate_line) (g.K.Sink.held c.args.out.now) (g.K.Sink.faults c.args.out.now) c.in_ok-add_first.ensures.poured);
}
