use Rattle.bbm_rules.proofs.Common.{not, rules, filter_same, is_at}
use Rattle.bbm_oracle_tags.proofs.roots.retire.Goals as goal

pub returns : goal.returns
returns c = filter_same _ (λ r. not (is_at c.args.page r)) _ (λ x b f' k. search rules) _ _ c.retain.ensures.filtered
