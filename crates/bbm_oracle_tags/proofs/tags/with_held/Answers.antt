use Rattle.bbm_rules.proofs.Common.{◌&&◌, ◌||◌, refl, sym, ◌∙◌, same_tag}
use Rattle.bbm_oracle_tags.proofs.TagLemmas.{hit-held, hit-same, missed, set-same}
use Rattle.bbm_oracle_tags.proofs.tags.with_held.Goals as goal

pub returns-then-holds : goal.returns-then-holds
returns-then-holds c = λ test held has is.
    c.with_tag.ensures test (λ g. same_tag c.args.tag g && held g) has
    (hit-held (λ g k e. (c.law_equality_tests.ensures.tags g k).0 e) held c.args.tag
    ((c.law_equality_tests.ensures.tags c.args.tag c.args.tag).1 refl) (sym is ∙ c.if-holds.true))
    (λ g. hit-same (λ g k e. (c.law_equality_tests.ensures.tags g k).0 e) held c.args.tag g)

pub returns-else-holds : goal.returns-else-holds
returns-else-holds c = λ test held has is.
    set-same test (λ g. test g || (same_tag c.args.tag g && held g)) c.args.set
    (missed (λ g k e. (c.law_equality_tests.ensures.tags g k).0 e) test held c.args.tag (sym is ∙ c.if-holds.false)) has
