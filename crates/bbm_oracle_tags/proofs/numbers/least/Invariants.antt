use Rattle.bbm_rules.proofs.Common.{◌≡◌, take, least}
use Rattle.bbm_oracle_tags.proofs.numbers.least.Given as goal

abbrev pub invariant-loop-number : goal.invariant-loop-number
invariant-loop-number l = l.least ≡ least (take l.number-index l.numbers)
