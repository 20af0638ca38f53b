use Rattle.bbm_rules.proofs.Common.{◌≡◌, ◌++◌, take}
use Rattle.bbm_tlb_machine.proofs.entry.add_all.Given as goal

abbrev pub invariant-loop-part : goal.invariant-loop-part
invariant-loop-part l = l.parts.items ≡ l.initial.parts.items ++ take l.part-index l.more
