use Rattle.bbm_claims.proofs.Common.{has, Holding}
use Rattle.bbm_rules.proofs.Common.{List, reverse, sym, ◌∙◌, ap, Listed, Event, left_at}
use Rattle.bbm_oracle_tags.specs.Keepers.{keeps_at}
use Rattle.bbm_oracle_tags.specs.declared.keeper.Keeper.{Keeper}
use Rattle.bbm_claims.proofs.TagSteps.{left_behind}
use Rattle.bbm_claims.proofs.by_claims.ByClaimsTagEvidence.keeps_at.Goals as goal

pub returns-in-GivenUp : goal.returns-in-GivenUp
returns-in-GivenUp c =
    c.has.ensures.is
    ∙ ap (λ (xs : List Holding). has xs c.args.asked.now.pe c.args.asked.now.root c.args.asked.now.tag) c.deref.ensures.value
    ∙ c.requires.4.left_is c.args.asked.now.pe c.args.asked.now.root c.args.asked.now.tag c.has.ensures.below
    ∙ left_behind c.args.header.now (Listed c.args.self.now.claims.now) c.args.asked.now.pe c.args.asked.now.root
    c.args.asked.now.tag c.requires.0 c.requires.1 c.requires.3
    ∙ ap (λ (h : List Event). left_at c.args.header.now (Listed c.args.self.now.claims.now) c.args.asked.now.pe
    c.args.asked.now.root c.args.asked.now.tag h) (sym c.requires.2)
    ∙ ap (λ (keeper : Keeper). keeps_at c.args.header.now (Listed c.args.self.now.claims.now) keeper c.args.asked.now.pe
    c.args.asked.now.root c.args.asked.now.tag (reverse c.args.events.now)) (sym c.in-GivenUp.is)
