use Rattle.bbm_claims.proofs.Common.{Holding}
use Rattle.bbm_rules.proofs.Common.{◌==◌, not, rules, filter_same}
use Rattle.bbm_claims.proofs.holdings.drop_held.Goals as goal

pub returns : goal.returns
returns c =
    filter_same _ (λ (x : Holding). not (x.root == c.args.root)) _ (λ x b f' k. search rules) _ _
    c.retain.ensures.filtered
