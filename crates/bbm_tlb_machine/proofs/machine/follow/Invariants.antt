use Rattle.bbm_rules.proofs.Common.{◌≡◌, ◌≤◌, take, reverse}
use Rattle.bbm_tlb_machine.specs.Followed.{Follows}
use Rattle.bbm_tlb_machine.proofs.machine.follow.Given as goal

abbrev pub invariant-loop-step : goal.invariant-loop-step
invariant-loop-step l = record {
  counted : l.taken ≡ l.step-index;
  made : l.machine.state.made ≤ l.step-index;
  follows : Follows l.header (reverse (take l.step-index l.steps.items)) l.machine;
}
