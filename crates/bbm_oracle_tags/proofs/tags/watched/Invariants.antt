use Rattle.bbm_rules.proofs.Common.{take, reverse}
use Rattle.bbm_oracle_tags.specs.Watches.{IsWatch}
use Rattle.bbm_oracle_tags.proofs.tags.watched.Given as goal

abbrev pub invariant-loop-i : goal.invariant-loop-i
invariant-loop-i l = IsWatch l.header l.asked.pe l.asked.root l.asked.tag (reverse (take l.i l.events)) l.watch
