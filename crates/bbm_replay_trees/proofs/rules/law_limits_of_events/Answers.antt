use Rattle.bbm_rules.proofs.Common.{Bool, ℕ, not, ◌&&◌, nat_le, ap, sym, ◌∙◌, Pages, Roots, among, if_so, initialised}
use Rattle.bbm_regimes.specs.declared.regime.Which.TheVariants.{Values}
use Rattle.bbm_replay_trees.proofs.RuleLemmas.{no_limit}
use Rattle.bbm_replay_trees.proofs.rules.law_limits_of_events.Goals as goal

pub returns : goal.returns
returns c = record {
  init = λ h pe page pages known same count.
      sym (ap (λ (b : Bool). if_so (not b && nat_le 16384 pages) Pages) same
      ∙ ap (λ (n : ℕ). if_so (not (among page (initialised h)) && nat_le 16384 n) Pages) count);
  root = λ h pe page roots kind lock count. sym (ap (λ (n : ℕ). if_so (nat_le 1024 n) Roots) count);
  msr = λ h pe value readable reg count. sym (ap (λ (n : ℕ). if_so (nat_le 9 n) Values) count);
  others = no_limit;
}
