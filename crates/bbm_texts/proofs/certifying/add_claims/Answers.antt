use Rattle.bbm_texts.proofs.Common.{claim_lines, ended, Buffered, Pours}
use Rattle.bbm_rules.proofs.Common.{◌≡◌, ◌+◌, ◌<◌, ◌++◌, ℕ, List, Err, get_or, length, take, arith, subst, sym, ap, ◌∙◌}
use Rattle.bbm_rules.proofs.Common.{append_assoc, append-nil, take_all, Claim}
use Rattle.bbm_texts.specs.CertTexts.{line_of_claim}
use Rattle.bbm_texts.proofs.ManyLines.{many-cut, many-more}
use Rattle.bbm_texts.proofs.certifying.add_claims.Goals as goal

pub claims-init : goal.claims-init
claims-init g c = record {
  within = omega arith;
  poured = λ text start faults buffered.
      subst (λ (t : List ℕ). Buffered t c.args.buffer.now.items start (g.K.Sink.held c.args.out.now) faults (g.K.Sink.faults c.args.out.now)) (sym (append-nil text)) buffered;
}

-- the text with one claim more
longer : (text : List ℕ) (claims : List Claim) (i : ℕ) (x : Claim) → i < length claims → x ≡ get_or claims i x
    → (text ++ claim_lines (take i claims)) ++ ended (line_of_claim x) ≡ text ++ claim_lines (take (i + 1) claims)
longer text claims i x below is =
    ap (λ (y : Claim). (text ++ claim_lines (take i claims)) ++ ended (line_of_claim y)) is
    ∙ append_assoc text (claim_lines (take i claims)) (ended (line_of_claim (get_or claims i x))) ∙ ap (λ (t : List ℕ). text ++ t) (sym (many-more line_of_claim claims i x below))

pub claims-preserved : goal.claims-preserved
claims-preserved g c = record {
  within = omega (arith, c.claims-test.true);
  poured = λ text start faults buffered.
      subst (λ (t : List ℕ). Buffered t c.add_claim.new.buffer.items start (g.K.Sink.held c.add_claim.new.out) faults (g.K.Sink.faults c.add_claim.new.out))
      (longer text c.args.claims.now c.claims.i c.index-claims-i.result (omega (arith, c.claims-test.true)) c.index-claims-i.is)
      (c.in-Ok.ensures.poured (text ++ claim_lines (take c.claims.i c.args.claims.now)) start faults (c.claims.invariant.poured text start faults buffered));
}

pub returns-in-Err : goal.returns-in-Err
returns-in-Err g c = record {
  poured = λ text start faults buffered.
      many-cut line_of_claim text c.args.claims.now c.claims.i c.index-claims-i.result c.in-Err.failed c.add_claim.new.buffer.items start (g.K.Sink.held c.add_claim.new.out) faults (g.K.Sink.faults c.add_claim.new.out)
      (omega (arith, c.claims-test.true))
      (subst (λ (x : Claim). Pours ((text ++ claim_lines (take c.claims.i c.args.claims.now)) ++ ended (line_of_claim x)) (Err c.in-Err.failed) c.add_claim.new.buffer.items start (g.K.Sink.held c.add_claim.new.out) faults (g.K.Sink.faults c.add_claim.new.out)) c.index-claims-i.is
      (c.in-Err.ensures.poured (text ++ claim_lines (take c.claims.i c.args.claims.now)) start faults (c.claims.invariant.poured text start faults buffered)));
}

pub returns : goal.returns
returns g c =
    let all : take c.claims.i c.args.claims.now ≡ c.args.claims.now = take_all c.claims.i c.args.claims.now (omega (arith, c.claims-test.false)) in
    record {
      poured = λ text start faults buffered.
          subst (λ (cs : List Claim). Buffered (text ++ claim_lines cs) c.claims.buffer.items start (g.K.Sink.held c.claims.out) faults (g.K.Sink.faults c.claims.out)) all
          (c.claims.invariant.poured text start faults buffered);
    }
