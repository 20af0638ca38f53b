-- None of the pairs so far is of the place.
use Rattle.std.proofs.Common.{◌≡◌, drop}
use Rattle.bbm_descriptor.specs.Pairs.{value_among}
use Rattle.bbm_descriptor.proofs.memory.PairsMemory.value.Given as goal

abbrev pub invariant-loop-at : goal.invariant-loop-at
invariant-loop-at l = value_among l.self.pairs.now l.place ≡ value_among (drop l.at-index l.at-items) l.place
