use Rattle.bbm_claims.proofs.Common.{tells, Cleansing}
use Rattle.bbm_rules.proofs.Common.{List, ◌∙◌, ap}
use Rattle.bbm_claims.proofs.Cleansed.{kept_cleansed}
use Rattle.bbm_claims.proofs.by_claims.ByClaimsEvidence.cleansed.Goals as goal

pub returns : goal.returns
returns c = λ p.
    c.cleansed_since.ensures p
    ∙ ap (λ (xs : List Cleansing). tells xs c.args.place p c.args.from) c.deref.ensures.value
    ∙ kept_cleansed c.args._header.now (c.known.ensures c.args._header.now) c.args.self.now.claims.now
    c.args.self.now.cleansings.items c.args._log.now c.args.from c.args.place p c.requires.within c.requires.taken.0
