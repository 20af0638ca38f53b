use Rattle.bbm_claims.proofs.Common.{has, Holding}
use Rattle.bbm_rules.proofs.Common.{◌==◌, List, ◌++◌, ap, ◌∙◌, filter}
use Rattle.bbm_claims.proofs.LeftTags.{held_still, left_more}
use Rattle.bbm_claims.proofs.holdings.leave.Goals as goal

pub returns-clause-held : goal.returns-clause-held
returns-clause-held c = λ p r tag.
    ap (λ (xs : List Holding). has xs p r tag) c.drop_held.ensures
    ∙ held_still c.args.root p r tag c.args.tags.now.held.items

pub returns-clause-left : goal.returns-clause-left
returns-clause-left c = λ p r tag.
    ap (λ (xs : List Holding). has xs p r tag) (c.in_ok-add_all_left.ensures
    ∙ ap (λ (xs : List Holding). c.args.tags.now.left.items ++ filter (λ x. x.root == c.args.root) xs)
    c.deref.ensures.value)
    ∙ left_more c.args.root p r tag c.args.tags.now.held.items c.args.tags.now.left.items
