use Rattle.bbm_texts.proofs.Common.{Event, Heading, Verdict, Accepted, Show, Cert, Status, Decision, MayShowEvidence}
use Rattle.bbm_texts.proofs.Common.{status_of, Keeps, KnowsThat, ReportsDecided, ReportsText}
use Rattle.bbm_rules.proofs.Common.{◌≡◌, ℕ, List, Option, Some, inl, inr, sym, subst}
use Rattle.bbm_texts.specs.CertTexts.{CertOf, CertifiedBy}
use Rattle.bbm_texts.proofs.certifying.report_cert.Goals as goal

-- an accepted log is told by its certificate
reports-claims : (heading : Heading) (h : List Event) (d : Decision) (n : ℕ) (result : Status) (old new : Option (List ℕ)) (f f' : ℕ)
    → d.verdict ≡ Accepted n → ReportsText (CertifiedBy heading h) (status_of d.verdict) result old new f f'
    → ReportsDecided (Show Cert) (Some heading) h d result old new f f'
reports-claims heading h d n result old new f f' is (inl told) =
    inl (told.0, subst (λ (v : Verdict). CertOf heading h v told.0) (sym is) told.1, told.2)
reports-claims heading h d n result old new f f' is (inr silent) =
    inr (subst (λ (v : Verdict). MayShowEvidence (Show Cert) v) (sym is) tt, silent)

pub returns-in-Accepted : goal.returns-in-Accepted
returns-in-Accepted g c = λ h knows.
    let known = subst (λ (v : Verdict). KnowsThat (Keeps (g.C.Checker.stands c.args.checker.now) c.args.header.now h) v) c.in-Accepted.is knows in
    reports-claims c.args.header.now h c.args.decision.now c.in-Accepted.events c.report_claims.result _ _ _ _ c.in-Accepted.is (c.report_claims.ensures h known)
