use Rattle.bbm_rules.proofs.RuleLemmas.{each_unbroken, kept_by_each}
use Rattle.bbm_rules.proofs.history_laws.law_each_rule.Goals as goal

pub returns : goal.returns
returns c heading trust = record {
  sound = each_unbroken heading trust;
  complete = kept_by_each heading trust;
}
