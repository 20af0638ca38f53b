use Rattle.bbm_claims.proofs.Common.{tells, has, Cleansing, lasts, Holding, Span}
use Rattle.bbm_rules.proofs.Common.{List, ap, refl, ◌∙◌}
use Rattle.bbm_claims.proofs.Cleansed.{tell_nothing}
use Rattle.bbm_claims.proofs.Lasting.{nothing_lasts}
use Rattle.bbm_claims.proofs.by_claims.ByClaims.new.Goals as goal

pub returns-clause-taken : goal.returns-clause-taken
returns-clause-taken c = λ heading. (
  (λ place p n. ap (λ (xs : List Cleansing). tells xs place p n) c.new.ensures.items
      ∙ tell_nothing heading c.args.claims.now place p n),
  record {
    held_is = λ p root tag below. ap (λ (xs : List Holding). has xs p root tag) c.new-2.ensures.items;
    left_is = λ p page tag below. ap (λ (xs : List Holding). has xs p page tag) c.new-3.ensures.items;
  },
  (λ p n tag below. ap (λ (xs : List Span). lasts xs p tag n) c.new-4.ensures.items ∙ nothing_lasts heading p tag n),
  refl,
  (λ place p n. ap (λ (xs : List Cleansing). tells xs place p n) c.new-5.ensures.items
      ∙ tell_nothing heading c.args.claims.now place p n),
)
