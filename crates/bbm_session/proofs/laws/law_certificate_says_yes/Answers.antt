use Rattle.bbm_session.proofs.laws.law_certificate_says_yes.Goals as goal

pub returns : goal.returns
returns c heading log claims ok kept is =
    c.law_judged.ensures.yes heading claims log (c.law_certificate_is_verified.ensures heading log claims ok kept is)
