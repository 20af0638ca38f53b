use Rattle.bbm_rules.proofs.Common.{◌≡◌, take, reverse}
use Rattle.bbm_rules.specs.Roots.{given_up_since}
use Rattle.bbm_tlb_machine.proofs.given_up.given_up_since.Given as goal

abbrev pub invariant-loop-i : goal.invariant-loop-i
invariant-loop-i l = l.found ≡ given_up_since l.since l.page (reverse (take l.i l.events))
