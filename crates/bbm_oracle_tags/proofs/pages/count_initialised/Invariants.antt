use Rattle.bbm_rules.proofs.Common.{◌≡◌, ◌≤◌, take, reverse, length, initialised}
use Rattle.bbm_oracle_tags.proofs.pages.count_initialised.Given as goal

abbrev pub invariant-loop-i : goal.invariant-loop-i
invariant-loop-i l = record {
  counted : l.count ≡ length (initialised (reverse (take l.i l.events)));
  within : l.count ≤ l.i;
}
