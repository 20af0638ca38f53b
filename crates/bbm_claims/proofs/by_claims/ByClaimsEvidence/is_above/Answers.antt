use Rattle.bbm_claims.proofs.Common.{notes_behind, tells, Cleansing}
use Rattle.bbm_rules.proofs.Common.{ℕ, List, reverse, drop, ◌∙◌, ap, every_pe, Listed, every_same}
use Rattle.bbm_events.specs.Heading.{Heading}
use Rattle.bbm_regimes.specs.PeMask.{pe_in}
use Rattle.bbm_rules.specs.Cleansing.{above}
use Rattle.bbm_claims.proofs.Cleansed.{kept_above}
use Rattle.bbm_claims.proofs.by_claims.ByClaimsEvidence.is_above.Goals as goal

pub returns : goal.returns
returns c =
    let header : Heading = c.args.header.now in
    c.has_all.ensures
    ∙ ap (λ (n : ℕ). every_pe n (λ p. pe_in c.cleansed_since.result p)) c.pe_count.ensures
    ∙ every_same header.pes (λ p. pe_in c.cleansed_since.result p)
    (λ p. above header (Listed c.args.self.now.claims.now) c.args.place p
    (notes_behind c.args.from (reverse (drop c.args.from c.args._log.now))))
    (λ p below. c.cleansed_since.ensures p
    ∙ ap (λ (xs : List Cleansing). tells xs c.args.place p c.args.from) c.deref.ensures.value
    ∙ kept_above header (c.known.ensures header) c.args.self.now.claims.now
    c.args.self.now.above.items c.args._log.now c.args.from c.args.place p c.requires.within c.requires.taken.4)
